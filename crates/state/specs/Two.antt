-- The state of a reader of two streams, and what a packet does to it (SCOPE 27.2, 27.3). What a verdict does to a stream's running block is
-- said where one stream's is.
use Rattle.std.specs.Prelude.{Bool, false, List, [], ◌∷◌, ◌++◌, map, ℕ}
use Rattle.laws.specs.Pick.{pick, both, either}
use Rattle.blocks.specs.Block.{Block}
use Rattle.pages.specs.declared.headers.Verdict.{Verdict}
use Rattle.pages.specs.declared.two.Whose.{Whose}
use Rattle.pages.specs.declared.two.Whose.TheVariants.{First, Second}
use Rattle.pages.specs.declared.two.SharedPage.{SharedPage}
use Rattle.pages.specs.declared.two.SharedPage.TheVariants.{None}
use Rattle.pages.specs.declared.two.Verdicts.{Verdicts}
use Rattle.pages.specs.Two.{SeenByTwo, unreadable, passing, neither, header, numbered, same, page_for}
use Rattle.pages.specs.Verdicts.{verdicts_of}
use Rattle.walk.specs.Mode.{Mode, off}
use Rattle.walk.specs.Store.{zeroed, mode_of, run_of, held_of}
use Rattle.state.specs.declared.Reader.{Reader}
use Rattle.state.specs.declared.two.Half.{Half}
use Rattle.state.specs.declared.two.Readers.{Readers}
use Rattle.state.specs.Acting.{State, heeded, heeded_blocks, heeded_drops}
use Rattle.state.specs.State.{reader_in_range, Sound}

-- what is one stream's own: its last index, its running block, and whether that spans pages
pub record Own : Type 0 where
  pub index : ℕ
  pub mode : Mode
  pub joined : Bool

-- the state of two: the open page, and each stream's own
pub record TwoState : Type 0 where
  pub page : SharedPage
  pub first : Own
  pub second : Own

abbrev pub own_for : Whose → TwoState → Own
own_for First st = st.first
own_for Second st = st.second

-- one of the two alone: the state of a reader of that stream, to which the other's page is shut (SCOPE 27.4)
abbrev pub state_for : Whose → TwoState → State
state_for w st =
    record { page = page_for w st.page; index = (own_for w st).index; mode = (own_for w st).mode; joined = (own_for w st).joined }

abbrev pub own_of : State → Own
own_of st = record { index = st.index; mode = st.mode; joined = st.joined }

-- a fresh reader of two: no page of theirs is open, and nothing runs
abbrev pub fresh_own : Own
fresh_own = record { index = 15; mode = off; joined = false }

abbrev pub fresh_of_two : TwoState
fresh_of_two = record { page = None; first = fresh_own; second = fresh_own }

-- ---- a packet

-- its pointer and the 39 bytes after it; only a packet Y has them
abbrev pub pointer_in : SeenByTwo → ℕ
pointer_in unreadable = 0
pointer_in passing = 0
pointer_in neither = 0
pointer_in (header owner i n) = 0
pointer_in (numbered y p l) = p

abbrev pub bytes_in : SeenByTwo → List ℕ
bytes_in unreadable = []
bytes_in passing = []
bytes_in neither = []
bytes_in (header owner i n) = []
bytes_in (numbered y p l) = l

-- the verdict on it, and what of that is one stream's
abbrev pub judged : TwoState → SeenByTwo → Verdicts
judged st x = verdicts_of st.page st.first.index st.second.index x

abbrev pub verdict_in : Whose → Verdicts → Verdict
verdict_in First v = v.first
verdict_in Second v = v.second

-- each stream heeds its verdict as a reader of one does
abbrev pub own_after : Whose → TwoState → SeenByTwo → Own
own_after w st x = own_of (heeded (verdict_in w (judged st x)) (pointer_in x) (bytes_in x) (state_for w st))

unfoldable pub act_of_two : TwoState → SeenByTwo → TwoState
act_of_two st x = record { page = (judged st x).page; first = own_after First st x; second = own_after Second st x }

-- a block goes out with whose it is
pub record Handed : Type 0 where
  pub whose : Whose
  pub block : Block

abbrev pub handed_from : Whose → Block → Handed
handed_from w b = record { whose = w; block = b }

abbrev pub blocks_after : Whose → TwoState → SeenByTwo → List Block
blocks_after w st x = heeded_blocks (verdict_in w (judged st x)) (pointer_in x) (bytes_in x) (state_for w st)

unfoldable pub handed_of_two : TwoState → SeenByTwo → List Handed
handed_of_two st x = map (handed_from First) (blocks_after First st x) ++ map (handed_from Second) (blocks_after Second st x)

-- those of one stream
unfoldable pub blocks_for : Whose → List Handed → List Block
blocks_for w [] = []
blocks_for w (h ∷ hs) = pick (same w h.whose) (h.block ∷ blocks_for w hs) (blocks_for w hs)

-- whether a block of either is dropped
abbrev pub drops_after : Whose → TwoState → SeenByTwo → Bool
drops_after w st x = heeded_drops (verdict_in w (judged st x)) (pointer_in x) (bytes_in x) (state_for w st)

unfoldable pub dropped_of_two : TwoState → SeenByTwo → Bool
dropped_of_two st x = either (drops_after First st x) (drops_after Second st x)

-- ---- as the reader holds it: a store for each stream

abbrev pub half_for : Whose → Readers → Half
half_for First r = r.first
half_for Second r = r.second

abbrev pub store_for : Whose → Readers → List ℕ
store_for First r = r.store1
store_for Second r = r.store2

-- one of the two alone, as its own reader would hold it
abbrev pub reader_for : Whose → Readers → Reader
reader_for w r =
    record {
      page = page_for w r.page;
      index = (half_for w r).index;
      run = (half_for w r).run;
      joined = (half_for w r).joined;
      store = store_for w r;
    }

-- in range: for each stream (SCOPE 10.2)
unfoldable pub readers_in_range : Readers → Bool
readers_in_range r = both (reader_in_range (reader_for First r)) (reader_in_range (reader_for Second r))

-- the state that is held, and how a state is held
abbrev pub own_held : Half → List ℕ → Own
own_held h store = record { index = h.index; mode = mode_of h.run store; joined = h.joined }

abbrev pub two_state_of : Readers → TwoState
two_state_of r = record { page = r.page; first = own_held r.first r.store1; second = own_held r.second r.store2 }

abbrev pub half_of : Own → Half
half_of o = record { index = o.index; run = run_of o.mode; joined = o.joined }

abbrev pub readers_of : TwoState → Readers
readers_of st =
    record {
      page = st.page;
      first = half_of st.first;
      second = half_of st.second;
      store1 = zeroed (held_of st.first.mode);
      store2 = zeroed (held_of st.second.mode);
    }

-- a state of two that calls leave
abbrev pub SoundOfTwo : TwoState → Type 0
SoundOfTwo st = (w : Whose) → Sound (state_for w st)
