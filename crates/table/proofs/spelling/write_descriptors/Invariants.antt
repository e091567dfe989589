-- `table::spelling::write_descriptors` meets its contract: what is left to be stored from here makes what was to be stored. Assumes
-- nothing.
use mathlib.Core.Path.{◌≡◌}
use Prim.Native.Nat.{◌+◌, ◌-◌, ◌*◌, ◌/◌, ◌^◌, ◌≤◌}
use lib.ListN.{length}
use lib.Seq.{sets}
use Rattle.forms.specs.Tables.{per}
use Rattle.forms.specs.Form.{listed}
use Rattle.fields.specs.Compound.{compound}
use Rattle.table.specs.Control.{descriptors_of}
use Rattle.table.specs.Internal.{descriptor_bits, table_bits, descriptor_bytes, form_bytes}
use Rattle.table.proofs.spelling.write_descriptors.Given as goal

abbrev pub invariant-loop : goal.invariant-loop
invariant-loop l =
    (length l.out ≡ length l.initial.out) × (l.q + descriptor_bytes * (l.count - l.counter) ≤ form_bytes) × (l.at + descriptor_bits * (l.count - l.counter) ≤ table_bits)
    × (sets l.out l.q (listed l.kind (descriptors_of (per l.kind) (l.count - l.counter) (compound l.body / 2 ^ l.at)))
    ≡ sets l.initial.out 6 (listed l.kind (descriptors_of (per l.kind) l.count (compound l.body / 2 ^ 58))))
