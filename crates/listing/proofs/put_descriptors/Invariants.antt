-- `listing::put_descriptors` meets its contract: what is left to be put from here makes what was to be put. Assumes nothing.
use mathlib.Core.Path.{◌≡◌}
use Prim.Native.Nat.{◌+◌, ◌-◌, ◌*◌, ◌≤◌}
use lib.ListN.{length, drop}
use Rattle.forms.specs.Form.{descriptors_in, table_in}
use Rattle.forms.specs.Internal.{descriptor_most, form_most}
use Rattle.forms.specs.Tables.{per}
use Rattle.listing.specs.Lines.{descriptor_lines, descriptor_lines_of}
use Rattle.listing.specs.Internal.{descriptor_lines_most, lines_most}
use Rattle.text_lines.proofs.Printed.{Left}
use Rattle.listing.proofs.put_descriptors.Given as goal

abbrev pub invariant-loop : goal.invariant-loop
invariant-loop l =
    (length l.out ≡ length l.initial.out) × (l.i + descriptor_most * (l.end - l.counter) ≤ form_most) × (l.p + descriptor_lines_most * (l.end - l.counter) ≤ lines_most)
    × Left l.out l.p (descriptor_lines l.kind (descriptors_in (per l.kind) (l.end - l.counter) (drop l.i l.table))) l.initial.out l.q (descriptor_lines_of (table_in l.table))
