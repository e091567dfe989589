-- `reader::two::take_all` meets its contract: what is left of the packets, from what has come, is what all of them come to. Assumes nothing.
use mathlib.Core.Path.{◌≡◌}
use Prim.Native.Nat.{◌-◌, ◌*◌, ◌%◌, ◌≤◌}
use lib.ListN.{length}
use Rattle.walk.specs.Reading.{room}
use Rattle.reader.specs.InternalTwo.{ran_of_two_from, ReachedTwo}
use Rattle.reader.proofs.two.take_all.Given as goal

abbrev pub invariant-loop-at : goal.invariant-loop-at
invariant-loop-at l =
    (l.at ≤ length l.packets) × ((length l.packets - l.at) % 42 ≡ 0) × (length l.hold ≡ 2 * room) × (length l.out ≡ length l.initial.out) × (l.a.written ≤ length l.initial.out)
    × (l.a.blocks ≤ l.a.written)
    × ReachedTwo l.setting (length l.initial.out) l.packets l.at l.a l.store1 l.store2 l.initial.out l.out (ran_of_two_from l.setting (length l.initial.out) l.initial.a l.initial.store1 l.initial.store2 l.packets)

abbrev pub decreases-loop-at : goal.decreases-loop-at
decreases-loop-at l = length l.packets - l.at
