-- `broadcast::walk` meets its contract: what is left of the records is whole, says which channel it is and is tallied as all of them. The measure
-- is what is left. Assumes nothing.
use mathlib.Core.Path.{◌≡◌}
use Prim.Native.Nat.{◌≤◌, ◌-◌}
use lib.ListN.{length, drop}
use Rattle.blocks.specs.Block.{whole, blocks}
use Rattle.broadcast.specs.Counting.{all_seen}
use Rattle.broadcast.specs.Lawful.{channel_from}
use Rattle.broadcast.specs.Internal.{tallied}
use Rattle.broadcast.proofs.walk.Given as goal

abbrev pub invariant-loop-next : goal.invariant-loop-next
invariant-loop-next l =
    (l.at ≤ length l.records)
    × (whole (drop l.at l.records) ≡ whole l.records)
    × (channel_from l.channel (all_seen l.application (blocks (drop l.at l.records))) ≡ channel_from 0 (all_seen l.application (blocks l.records)))
    × (tallied l.tally (all_seen l.application (blocks (drop l.at l.records))) ≡ tallied l.initial.tally (all_seen l.application (blocks l.records)))

abbrev pub decreases-loop-next : goal.decreases-loop-next
decreases-loop-next l = length l.records - l.at
