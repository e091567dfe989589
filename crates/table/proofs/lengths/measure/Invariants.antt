-- `table::lengths::measure` meets its contract: the bits passed and those of the descriptors left make the table's bits. Assumes
-- nothing.
use mathlib.Core.Path.{◌≡◌}
use Prim.Native.Nat.{◌+◌, ◌-◌, ◌*◌, ◌/◌, ◌^◌, ◌≤◌}
use Rattle.fields.specs.Fields.{width}
use Rattle.forms.specs.Tables.{per, loops}
use Rattle.fields.specs.Compound.{compound}
use Rattle.table.specs.Control.{descriptors_of}
use Rattle.table.specs.Internal.{descriptor_bits, table_bits}
use Rattle.table.proofs.lengths.measure.Given as goal

abbrev pub invariant-loop : goal.invariant-loop
invariant-loop l =
    (l.at + descriptor_bits * (l.count - l.counter) ≤ table_bits)
    × (l.at + width (loops l.kind (descriptors_of (per l.kind) (l.count - l.counter) (compound l.body / 2 ^ l.at))) ≡ 58 + width (loops l.kind (descriptors_of (per l.kind) l.count (compound l.body / 2 ^ 58))))
