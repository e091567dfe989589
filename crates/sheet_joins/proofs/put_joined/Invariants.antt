-- `sheet_joins::put_joined` meets its contract: before each turn, what is left of both sheets gives what is still to be put. The measure
-- is what is left. Assumes nothing.
use mathlib.Core.Path.{◌≡◌}
use Prim.Native.Nat.{◌+◌, ◌-◌}
use lib.ListN.{length}
use Rattle.sheet_joins.proofs.Turning.{Along}
use Rattle.sheet_joins.proofs.put_joined.Given as goal

abbrev pub invariant-loop-t : goal.invariant-loop-t
invariant-loop-t l = Along l.form l.first l.second l.initial.out l.out l.i l.j l.n l.q × (length l.out ≡ length l.initial.out)

abbrev pub decreases-loop-t : goal.decreases-loop-t
decreases-loop-t l = length l.first + length l.second - (l.i + l.j)
