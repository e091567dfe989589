-- The answers of the calls for two streams: what any reader's calls answer. Assumes nothing.
use mathlib.Core.Path.{◌≡◌, ◌∙◌, refl, sym}
use mathlib.Core.Bool.{Bool, true}
use mathlib.Core.List.{List, []}
use Prim.Native.Nat.{ℕ, ◌≤◌}
use lib.ListN.{length}
use Rattle.laws.specs.Pick.{both}
use Rattle.laws.proofs.Tests.{both_true}
use Rattle.packet.specs.declared.two.Streams.{Streams}
use Rattle.packet.specs.Two.{in_range_of_two}
use Rattle.pages.specs.declared.two.Whose.TheVariants.{First, Second}
use Rattle.pages.specs.declared.two.SharedPage.{SharedPage}
use Rattle.walk.specs.Store.{store_length}
use Rattle.walk.specs.Internal.{Kept}
use Rattle.state.specs.declared.two.Half.{Half}
use Rattle.state.specs.declared.two.Readers.{Readers}
use Rattle.state.specs.State.{reader_in_range, Sixteen}
use Rattle.state.specs.Two.{TwoState, Own, reader_for, readers_in_range, half_of, readers_of}
use Rattle.state.proofs.Holding.{kept_in-range}
use Rattle.reader.specs.Taking.{took_all}
use Rattle.reader.specs.declared.many.Taking.{Taking}
use Rattle.reader.specs.declared.two.Pair.{Pair}
use Rattle.reader.specs.Two.{marked_all, tuned_to_two}
use Rattle.reader.specs.InternalTwo.{OwnIn, started_of_two, ran_of_two_from, RanOfTwoTo}
use Rattle.reader.specs.Internal.{ran_in, reading, laid}
use Rattle.reader.specs.Taking.{took_all}
use Rattle.reader.proofs.Answering.{came_took, came_out}

pub marked-none : (s : Streams) → marked_all s [] ≡ []
unfolding marked_all
marked-none s = refl

-- where a call goes on, the setting is in range
pub both-fits : (s : Streams) (r : Readers) {b : Bool} → b ≡ both (in_range_of_two s) (readers_in_range r) → b ≡ true → in_range_of_two s ≡ true
both-fits s r x y = (both_true (in_range_of_two s) _ (sym x ∙ y)).0

-- and each stream's block is held
pub both-kept :
    (s : Streams) (r : Readers) {b : Bool} → b ≡ both (in_range_of_two s) (readers_in_range r) → b ≡ true → Sixteen r.first.run × Sixteen r.second.run
    → length r.store1 ≡ store_length → length r.store2 ≡ store_length → Kept r.first.run r.store1 × Kept r.second.run r.store2
unfolding readers_in_range
both-kept s r x y z k l =
    let i = (both_true (in_range_of_two s) _ (sym x ∙ y)).1 in
    let j = both_true (reader_in_range (reader_for First r)) _ i in
    (kept_in-range (reader_for First r) j.0 z.0 k, kept_in-range (reader_for Second r) j.1 z.1 l)

-- the state that what has come is handed back as
half_back : {o : Own} {h : Half} {store : List ℕ} → OwnIn o h store → h ≡ half_of o
half_back w = rw (w.index, w.joined, w.holds.run)

handed-both :
    {st : TwoState} {page : SharedPage} {first second : Half} {store1 store2 : List ℕ} → page ≡ st.page → OwnIn st.first first store1
    → OwnIn st.second second store2
    → record { page = page; first = first; second = second; store1 = store1; store2 = store2 } ≡ readers_of st
handed-both x y z = rw (x, half_back y, half_back z, y.holds.kept, z.holds.kept)

-- what the packets have come to is heard, held and laid
pub taken-two :
    (s : Streams) (r : Readers) (l old : List ℕ) {g : Pair} {t : Taking Pair} {store1 store2 new : List ℕ}
    → g ≡ started_of_two r.page r.first r.second → t.going.written ≤ length old
    → RanOfTwoTo s (ran_of_two_from s (length old) g r.store1 r.store2 l) t.going t.packets store1 store2 old new
    → (took_all t.packets t.going.blocks t.going.written t.going.dropped ≡ (reading tuned_to_two).took s r l (length old))
    × ((record { page = t.going.page; first = t.going.first; second = t.going.second; store1 = store1; store2 = store2 } ≡ (reading tuned_to_two).left s r l (length old))
    × (new ≡ laid ((reading tuned_to_two).bytes s r l (length old)) old))
taken-two s r l old {g} {t} {store1} {store2} {new} q f x =
    let w : RanOfTwoTo s (ran_in tuned_to_two s r l (length old)) t.going t.packets store1 store2 old new = rw q at x in
    (came_took w.came, (handed-both w.page w.first w.second, came_out w.came f))
