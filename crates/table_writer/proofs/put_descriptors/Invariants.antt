-- `table_writer::put_descriptors` meets its contract: the descriptors laid from here make those laid from the start. Assumes
-- nothing.
use mathlib.Core.Path.{◌≡◌}
use mathlib.Core.Bool.{true}
use Prim.Native.Nat.{◌+◌, ◌-◌, ◌*◌, ◌≤◌}
use lib.ListN.{length, drop}
use Rattle.fields.specs.Fields.{fitting}
use Rattle.fields.specs.Pens.{inked, moved, Fine}
use Rattle.forms.specs.Tables.{per, loops}
use Rattle.forms.specs.Form.{descriptors_in, table_in}
use Rattle.forms.specs.Internal.{descriptor_most, form_most}
use Rattle.table_writer.proofs.put_descriptors.Given as goal

abbrev pub invariant-loop : goal.invariant-loop
invariant-loop l =
    Fine l.p × (length l.out ≡ length l.initial.out) × (l.i + descriptor_most * (l.end - l.counter) ≤ form_most)
    × (fitting (loops l.kind (descriptors_in (per l.kind) (l.end - l.counter) (drop l.i l.table))) ≡ true)
    × (moved l.p (loops l.kind (descriptors_in (per l.kind) (l.end - l.counter) (drop l.i l.table))) ≡ moved l.initial.p (loops (table_in l.table).kind (table_in l.table).descriptors))
    × (inked l.p (loops l.kind (descriptors_in (per l.kind) (l.end - l.counter) (drop l.i l.table))) l.out ≡ inked l.initial.p (loops (table_in l.table).kind (table_in l.table).descriptors) l.initial.out)
