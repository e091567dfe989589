-- `reader::many::go_along` meets its contract: what has come so far has come along. Assumes nothing.
use mathlib.Core.Bool.{false}
use Prim.Native.Nat.{◌-◌}
use lib.ListN.{length}
use Rattle.reader.specs.Internal.{WentTo}
use Rattle.reader.proofs.many.go_along.Given as goal

abbrev pub invariant-loop-at : goal.invariant-loop-at
invariant-loop-at l = WentTo l.setting false l.packets l.limit l.start l.initial.a l.initial.store l.initial.out l.at l.a l.store l.out

abbrev pub decreases-loop-at : goal.decreases-loop-at
decreases-loop-at l = length l.packets - l.at
