-- The answers of the calls for one stream: what any reader's calls answer. Assumes nothing.
use mathlib.Core.Path.{◌≡◌, refl}
use mathlib.Core.Bool.{Bool}
use mathlib.Core.List.{List, []}
use Prim.Native.Nat.{ℕ, ◌≤◌}
use lib.ListN.{length}
use Rattle.blocks.specs.Block.{records_of}
use Rattle.packet.specs.declared.Setting.{Setting}
use Rattle.state.specs.declared.Reader.{Reader}
use Rattle.reader.specs.Taking.{took_all}
use Rattle.reader.specs.declared.many.Taking.{Taking}
use Rattle.walk.specs.declared.Run.{Run}
use Rattle.pages.specs.declared.headers.Page.{Page}
use Rattle.reader.specs.declared.many.Going.{Going}
use Rattle.state.specs.Acting.{State}
use Rattle.state.specs.State.{reader_of}
use Rattle.reader.specs.Feeding.{tuned_to}
use Rattle.walk.specs.Internal.{Holds}
use Rattle.reader.specs.Internal.{started, ran_from, ran_in, reading, laid, RanTo}
use Rattle.reader.specs.Taking.{took_all}
use Rattle.reader.proofs.Answering.{came_took, came_out}

pub records_none : records_of [] ≡ []
unfolding records_of
records_none = refl

-- the reader that what has come is handed back as
handed-back :
    {st : State} {page : Page} {index : ℕ} {run : Run} {joined : Bool} {store : List ℕ} → page ≡ st.page → index ≡ st.index
    → joined ≡ st.joined → Holds st.mode run store
    → record { page = page; index = index; run = run; joined = joined; store = store } ≡ reader_of st
handed-back x y z w = rw (x, y, z, w.run, w.kept)

-- what the packets have come to is heard, held and laid
pub taken-all :
    (s : Setting) (r : Reader) (l old : List ℕ) {g : Going} {t : Taking Going} {store new : List ℕ} → g ≡ started r.page r.index r.run r.joined
    → t.going.got.written ≤ length old → RanTo (ran_from s (length old) g r.store l) t store old new
    → (took_all t.packets t.going.got.blocks t.going.got.written t.going.got.dropped ≡ (reading tuned_to).took s r l (length old))
    × ((record { page = t.going.page; index = t.going.index; run = t.going.got.run; joined = t.going.joined; store = store } ≡ (reading tuned_to).left s r l (length old))
    × (new ≡ laid ((reading tuned_to).bytes s r l (length old)) old))
taken-all s r l old {g} {t} {store} {new} q f x =
    let w : RanTo (ran_in tuned_to s r l (length old)) t store old new = rw q at x in
    (came_took w.came, (handed-back w.page w.index w.joined w.holds, came_out w.came f))
