-- `changes::put_changes` meets its contract: before each turn, what is left of both sheets gives what is still to be put. The measure is what is
-- left. Assumes nothing.
use mathlib.Core.Path.{◌≡◌}
use Prim.Native.Nat.{◌+◌, ◌-◌}
use lib.ListN.{length}
use Rattle.changes.proofs.Putting.{Walk}
use Rattle.changes.proofs.put_changes.Given as goal

abbrev pub invariant-loop-t : goal.invariant-loop-t
invariant-loop-t l = Walk l.form l.first l.second l.initial.out l.out l.i l.j l.q × (length l.out ≡ length l.initial.out)

abbrev pub decreases-loop-t : goal.decreases-loop-t
decreases-loop-t l = length l.first + length l.second - (l.i + l.j)
