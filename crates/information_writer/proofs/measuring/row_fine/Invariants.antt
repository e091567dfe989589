-- `information_writer::measuring::row_fine` meets its contract: what is left decides as all of the row. Assumes nothing.
use mathlib.Core.Path.{◌≡◌}
use Prim.Native.Nat.{◌+◌, ◌*◌, ◌≤◌}
use lib.ListN.{drop}
use Rattle.fields.specs.Fields.{fitting}
use Rattle.information_writer.specs.Internal.{row_at}
use Rattle.information_writer.proofs.measuring.row_fine.Given as goal

abbrev pub invariant-loop-i : goal.invariant-loop-i
invariant-loop-i l =
    (l.p ≤ l.at + 3 * l.i) × (fitting (row_at (drop l.i l.widths) l.p l.form) ≡ fitting (row_at l.widths l.at l.form))
