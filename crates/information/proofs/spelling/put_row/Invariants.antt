-- `information::spelling::put_row` meets its contract: what is left of the row makes all of it. Assumes nothing.
use mathlib.Core.Path.{◌≡◌}
use Prim.Native.Nat.{◌+◌, ◌*◌, ◌/◌, ◌^◌, ◌≤◌}
use lib.ListN.{drop}
use lib.Seq.{sets}
use Rattle.fields.specs.Compound.{compound}
use Rattle.information.specs.Internal.{row_at}
use Rattle.information.proofs.spelling.put_row.Given as goal

abbrev pub invariant-loop-i : goal.invariant-loop-i
invariant-loop-i l =
    let n = compound l.control in
    (l.p ≤ l.at + 24 * l.i) × (l.q ≤ l.to + 3 * l.i)
    × (sets l.out l.q (row_at (drop l.i l.widths) (n / 2 ^ l.p)) ≡ sets l.initial.out l.to (row_at l.widths (n / 2 ^ l.at)))
