-- `reader::many::go_past` meets its contract: where the reader is alone, marks are taken between what goes along. Assumes nothing.
use Prim.Native.Nat.{◌-◌}
use lib.ListN.{length}
use Rattle.reader.specs.Internal.{WentTo}
use Rattle.reader.proofs.many.go_past.Given as goal

abbrev pub invariant-loop-at : goal.invariant-loop-at
invariant-loop-at l = WentTo l.setting l.alone l.packets l.limit l.start l.initial.a l.initial.store l.initial.out l.at l.a l.store l.out

abbrev pub decreases-loop-at : goal.decreases-loop-at
decreases-loop-at l = length l.packets - l.at
