-- `menu_listing::finding::is_whole` meets its contract: what is left is whole exactly when all is. The measure is what is left. Assumes nothing.
use mathlib.Core.Path.{◌≡◌}
use Prim.Native.Nat.{◌≤◌, ◌-◌}
use lib.ListN.{length, drop}
use Rattle.blocks.specs.Block.{whole}
use Rattle.menu_listing.proofs.finding.is_whole.Given as goal

abbrev pub invariant-loop-next : goal.invariant-loop-next
invariant-loop-next l = (l.at ≤ length l.records) × (whole (drop l.at l.records) ≡ whole l.records)

abbrev pub decreases-loop-next : goal.decreases-loop-next
decreases-loop-next l = length l.records - l.at
