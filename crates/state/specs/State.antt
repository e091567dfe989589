-- The state as the reader holds it: the running block's bytes in a store of 2,047, all others zero (SCOPE 10.1).
use Rattle.std.specs.Prelude.{◌≡◌, Bool, true, false, not, List, [], ◌∷◌, ℕ, suc, ◌-◌, ◌%◌, ◌^◌, ◌≤◌, ◌<◌, eqb, leb, drop}
use Rattle.laws.specs.Pick.{both}
use Rattle.blocks.specs.Block.{size_of}
use Rattle.blocks.specs.Parts.{part_most}
use Rattle.pages.specs.declared.headers.Page.{Page}
use Rattle.pages.specs.declared.headers.Page.TheVariants.{Shut, Open}
use Rattle.walk.specs.declared.Run.{Run}
use Rattle.walk.specs.declared.Run.TheVariants.{Idle, Head, Body}
use Rattle.state.specs.declared.Reader.{Reader}
use Rattle.walk.specs.Store.{zeroed, mode_of, run_of, held_of}
use Rattle.walk.specs.Mode.{off, running, Good}
use Rattle.state.specs.Acting.{State}

-- the state that a reader holds
abbrev pub state_of : Reader → State
state_of r = record { page = r.page; index = r.index; mode = mode_of r.run r.store; joined = r.joined }

-- how a reader holds it
abbrev pub reader_of : State → Reader
reader_of st =
    record { page = st.page; index = st.index; run = run_of st.mode; joined = st.joined; store = zeroed (held_of st.mode) }

-- a fresh reader: no page is open and nothing runs. Any index does; nothing can be dropped by it.
abbrev pub fresh_state : State
fresh_state = record { page = Shut; index = 15; mode = off; joined = false }

-- ---- in range (SCOPE 10.2): n is at most 25 and last at most n, no more bytes are held than the block has, and past them the store is
-- zero; the part is at most the start and the header bytes that have come; only a block that runs spans pages. The representation adds: an index below 16, at most three nibbles
-- of a header, and no bits but theirs

unfoldable pub zeros : List ℕ → Bool
zeros [] = true
zeros (b ∷ bs) = both (eqb b 0) (zeros bs)

abbrev pub page_in_range : Page → Bool
page_in_range Shut = true
page_in_range (Open n last) = both (leb n 25) (leb last n)

abbrev pub run_in_range : Run → Bool
run_in_range Idle = true
run_in_range (Head got bits part) = both (leb got 3) (both (leb part (suc got)) (eqb (bits % 16 ^ (4 - got)) 0))
run_in_range (Body head part held) = both (leb part part_most) (leb held (size_of head))

abbrev pub joined_in_range : Bool → Run → Bool
joined_in_range joined Idle = not joined
joined_in_range joined (Head got bits part) = true
joined_in_range joined (Body head part held) = true

abbrev pub held_by : Run → ℕ
held_by Idle = 0
held_by (Head got bits part) = 0
held_by (Body head part held) = held

unfoldable pub reader_in_range : Reader → Bool
reader_in_range r =
    both (page_in_range r.page)
    (both (leb r.index 15)
    (both (run_in_range r.run) (both (joined_in_range r.joined r.run) (zeros (drop (held_by r.run) r.store)))))

-- a run's bits are 16, which its type alone says
abbrev pub Sixteen : Run → Type 0
Sixteen Idle = Unit
Sixteen (Head got bits part) = bits < 2 ^ 16
Sixteen (Body head part held) = head < 2 ^ 16

-- a state that calls leave
pub record Sound (st : State) : Type 0 where
  pub page : page_in_range st.page ≡ true
  pub index : st.index ≤ 15
  pub mode : Good st.mode
  pub joined : st.joined ≡ true → running st.mode ≡ true
