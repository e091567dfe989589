-- `forms::loops_fit` meets its contract: whether the descriptors left fit is whether all do. Assumes nothing.
use mathlib.Core.Path.{◌≡◌}
use Prim.Native.Nat.{◌+◌, ◌-◌, ◌*◌, ◌≤◌}
use lib.ListN.{drop}
use Rattle.fields.specs.Fields.{fitting}
use Rattle.forms.specs.Tables.{per, loops}
use Rattle.forms.specs.Form.{descriptors_in, table_in}
use Rattle.forms.specs.Internal.{descriptor_most, form_most}
use Rattle.forms.proofs.loops_fit.Given as goal

abbrev pub invariant-loop : goal.invariant-loop
invariant-loop l =
    (l.at + descriptor_most * (l.end - l.counter) ≤ form_most)
    × (fitting (loops l.kind (descriptors_in (per l.kind) (l.end - l.counter) (drop l.at l.table))) ≡ fitting (loops (table_in l.table).kind (table_in l.table).descriptors))
