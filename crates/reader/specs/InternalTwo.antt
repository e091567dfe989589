-- What only private calls cite; nothing here needs to be believed. How the code holds what packets of two streams have come to, and what one
-- more adds.
use Rattle.std.specs.Prelude.{◌≡◌, Bool, true, false, List, [], ◌∷◌, ◌++◌, ℕ, ◌+◌, ◌-◌, ◌*◌, ◌/◌, ◌%◌, ◌≤◌, ◌<◌, length, get_or}
use Rattle.std.proofs.lemmas.List.Edits.{sets}
use Rattle.laws.specs.Pick.{either}
use Rattle.laws.specs.Each.{Each}
use Rattle.blocks.specs.Block.{Block, head_length, record_of, records_of}
use Rattle.blocks.specs.Sizes.{Sized}
use Rattle.packet.specs.declared.two.Streams.{Streams}
use Rattle.packet.specs.Packet.{packet_length}
use Rattle.packet.specs.Address.{address_of}
use Rattle.packet.specs.Two.{first_of}
use Rattle.pages.specs.declared.headers.Page.{Page}
use Rattle.pages.specs.declared.headers.Page.TheVariants.{Shut, Open}
use Rattle.pages.specs.declared.headers.Verdict.{Verdict}
use Rattle.pages.specs.declared.two.SharedPage.{SharedPage}
use Rattle.pages.specs.declared.two.SharedPage.TheVariants.{None, One}
use Rattle.pages.specs.declared.two.Whose.{Whose}
use Rattle.pages.specs.declared.two.Whose.TheVariants.{First, Second}
use Rattle.pages.specs.Two.{see_by_two, setting_for, page_for}
use Rattle.walk.specs.Store.{mode_of}
use Rattle.walk.specs.Reading.{room}
use Rattle.walk.specs.Internal.{Holds}
use Rattle.state.specs.declared.two.Half.{Half}
use Rattle.state.specs.Acting.{State, heeded, heeded_blocks, heeded_drops}
use Rattle.state.specs.Two.{Own, TwoState, Handed, own_of, own_held, act_of_two, handed_of_two, dropped_of_two}
use Rattle.reader.specs.declared.two.Pair.{Pair}
use Rattle.reader.specs.declared.two.Turned.{Turned}
use Rattle.reader.specs.declared.many.Going.{Going}
use Rattle.reader.specs.declared.many.Gone.{Gone}
use Rattle.reader.specs.Calls.{begun, run}
use Rattle.reader.specs.Internal.{CameTo, ReachedBy, started, packet_at, marks, WentOn}
use Rattle.reader.specs.Two.{room_of_two, RanOfTwo, does_for_two, marked_all}

-- ---- blocks of one stream

-- each behind the number k of its stream
unfoldable pub tagged : ℕ → List Block → List ℕ
tagged k [] = []
tagged k (b ∷ bs) = k ∷ (record_of b ++ tagged k bs)

-- how long the record at a place says that it is
abbrev pub long_at : List ℕ → ℕ → ℕ
long_at l p = head_length + (get_or l p 0 + 256 * get_or l (p + 1) 0) / 32

-- the first n bytes are records of blocks, and there is room for them at the place q, each behind the number of its stream
abbrev pub Laid : ℕ → List ℕ → ℕ → ℕ → List ℕ → Type 0
Laid k l n q out =
    (bs : List Block) × (rest : List ℕ) × Each Sized bs × (l ≡ records_of bs ++ rest) × (n ≡ length (records_of bs))
    × (q + length (tagged k bs) ≤ length out)

-- run and store hold what is one stream's own
pub record OwnIn (o : Own) (h : Half) (store : List ℕ) : Type 0 where
  pub index : h.index ≡ o.index
  pub joined : h.joined ≡ o.joined
  pub holds : Holds o.mode h.run store

-- the state of one stream alone
abbrev pub alone_in : Page → Half → List ℕ → State
alone_in page h store = record { page = page; index = h.index; mode = mode_of h.run store; joined = h.joined }

-- ---- one packet more

abbrev pub pair_in : Pair → List ℕ → List ℕ → TwoState
pair_in a store1 store2 = record { page = a.page; first = own_held a.first store1; second = own_held a.second store2 }

-- what stood at a is now at r
pub record SteppedTwo (s : Streams) (st : TwoState) (hs : List Handed) (d : Bool) (a r : Pair) (store1 store2 old new : List ℕ) : Type 0 where
  pub page : r.page ≡ st.page
  pub first : OwnIn st.first r.first store1
  pub second : OwnIn st.second r.second store2
  pub blocks : r.blocks ≡ a.blocks + length hs
  pub written : r.written ≡ a.written + length (marked_all s hs)
  pub dropped : r.dropped ≡ either a.dropped d
  pub out : new ≡ sets old a.written (marked_all s hs)

abbrev pub ActedOfTwo : Streams → List ℕ → Pair → Pair → List ℕ → List ℕ → List ℕ → List ℕ → List ℕ → List ℕ → Type 0
ActedOfTwo s p a r was1 was2 =
    let st = pair_in a was1 was2 in
    SteppedTwo s (act_of_two st (see_by_two s p)) (handed_of_two st (see_by_two s p)) (dropped_of_two st (see_by_two s p)) a r

-- a stream has come to what the verdict on a mark says
pub record TurnedTo (v : Verdict) (p : ℕ) (l : List ℕ) (st : State) (r : Turned) (store : List ℕ) : Type 0 where
  pub own : OwnIn (own_of (heeded v p l st)) r.half store
  pub dropped : r.dropped ≡ heeded_drops v p l st
  pub blocks : heeded_blocks v p l st ≡ []

-- ---- packets one after the other

-- no packet has come yet
abbrev pub started_of_two : SharedPage → Half → Half → Pair
started_of_two page first second =
    record { page = page; first = first; second = second; blocks = 0; written = 0; dropped = false }

abbrev pub none_yet : Pair → Type 0
none_yet a = (a.blocks ≡ 0) × (a.written ≡ 0) × (a.dropped ≡ false)

-- what the packets of l come to from a, with so much room
abbrev pub ran_of_two_from : Streams → ℕ → Pair → List ℕ → List ℕ → List ℕ → RanOfTwo
ran_of_two_from s long a store1 store2 l = run (does_for_two s) long (length l / packet_length) (begun (pair_in a store1 store2)) l

-- packets taken one after the other have come to b
pub record RanOfTwoTo (s : Streams) (b : RanOfTwo) (r : Pair) (packets : ℕ) (store1 store2 old new : List ℕ) : Type 0 where
  pub page : r.page ≡ b.state.page
  pub first : OwnIn b.state.first r.first store1
  pub second : OwnIn b.state.second r.second store2
  pub came : CameTo (marked_all s) b packets r.blocks r.written r.dropped old new

-- the packets up to the place `at` have come to a, and what is left from there comes to the whole
abbrev pub ReachedTwo : Streams → ℕ → List ℕ → ℕ → Pair → List ℕ → List ℕ → List ℕ → List ℕ → RanOfTwo → Type 0
ReachedTwo s long packets at a store1 store2 old new whole =
    ReachedBy (does_for_two s) long packets at (λ b. RanOfTwoTo s b a (at / packet_length) store1 store2 old new) whole

-- ---- up to a mark

abbrev pub which : {A : Type 0} → Whose → A → A → A
which First x y = x
which Second x y = y

-- the open page, where it is this stream's or none
abbrev pub owned_by : Whose → Page → SharedPage
owned_by w Shut = None
owned_by w (Open n last) = One w n last

-- there is room in the bytes held, and for a packet more wherever there is some in the first `limit` of them
pub record Ample (a : Pair) (limit : ℕ) (hold out : List ℕ) : Type 0 where
  pub one : room ≤ limit
  pub held : limit ≤ length hold
  pub few : a.blocks ≤ a.written
  pub long : a.written + 2 * (limit - room) + room_of_two ≤ length out

-- one stream's own reader has gone on, and the other's store is as it was
abbrev pub WentFor : Whose → Streams → List ℕ → ℕ → ℕ → SharedPage → Half → Half → List ℕ → List ℕ → List ℕ → Gone Going → List ℕ → List ℕ → List ℕ → Type 0
WentFor w s packets limit at page first second was1 was2 old r store1 store2 new =
    let h = which w first second in
    WentOn (setting_for w s) false packets limit at (started (page_for w page) h.index h.run h.joined) (which w was1 was2) old r
    (which w store1 store2) new
    × (which w store2 store1 ≡ which w was2 was1)

-- what has come from the place on is still what all comes to, and the packets end for want of room held, at a mark, or because none is left
pub record WentOnOfTwo (s : Streams) (packets : List ℕ) (at : ℕ) (a : Pair) (was1 was2 mid : List ℕ) (r : Gone Pair) (store1 store2 new : List ℕ) : Type 0 where
  pub reached :
      (old : List ℕ) (whole : RanOfTwo) → ReachedTwo s (length mid) packets at a was1 was2 old mid whole
      → ReachedTwo s (length mid) packets r.at r.going store1 store2 old new whole
  pub onward : at ≤ r.at
  pub within : r.at ≤ length packets
  pub even : (length packets - r.at) % packet_length ≡ 0
  pub fits : r.going.written ≤ length mid
  pub few : r.going.blocks ≤ r.going.written
  pub some : r.full ≡ true → at < r.at
  pub room : r.full ≡ false → r.at < length packets → r.going.written + room_of_two ≤ length mid
  pub met : r.full ≡ false → r.at < length packets → r.address ≡ address_of (packet_at packets r.at)
  pub mark : r.full ≡ false → r.at < length packets → marks (first_of s) r.address ≡ true
