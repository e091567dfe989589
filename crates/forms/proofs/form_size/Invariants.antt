-- `forms::form_size` meets its contract: the bytes passed and those of the descriptors left make the form's length. Assumes
-- nothing.
use mathlib.Core.Path.{◌≡◌}
use Prim.Native.Nat.{◌+◌, ◌-◌, ◌*◌, ◌≤◌}
use lib.ListN.{length, drop}
use Rattle.forms.specs.Tables.{per}
use Rattle.forms.specs.Form.{listed, form, descriptors_in, table_in}
use Rattle.forms.specs.Internal.{descriptor_most, form_most}
use Rattle.forms.proofs.form_size.Given as goal

abbrev pub invariant-loop : goal.invariant-loop
invariant-loop l =
    (l.at + descriptor_most * (l.end - l.counter) ≤ form_most)
    × (l.at + length (listed l.kind (descriptors_in (per l.kind) (l.end - l.counter) (drop l.at l.table))) ≡ length (form (table_in l.table)))
