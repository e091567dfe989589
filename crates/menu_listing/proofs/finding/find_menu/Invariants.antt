-- `menu_listing::finding::find_menu` meets its contract: the menus of what is left are all there are. The measure is what is left. Assumes nothing.
use mathlib.Core.Path.{◌≡◌}
use Prim.Native.Nat.{◌≤◌, ◌-◌}
use lib.ListN.{length, drop}
use Rattle.blocks.specs.Block.{blocks}
use Rattle.menu_listing.specs.Listing.{menus_of}
use Rattle.menu_listing.specs.Kept.{form_most}
use Rattle.menu_listing.proofs.finding.find_menu.Given as goal

abbrev pub invariant-loop-next : goal.invariant-loop-next
invariant-loop-next l =
    (l.at ≤ length l.records) × (length l.form ≡ form_most) × (menus_of l.application l.number (blocks (drop l.at l.records)) ≡ menus_of l.application l.number (blocks l.records))

abbrev pub decreases-loop-next : goal.decreases-loop-next
decreases-loop-next l = length l.records - l.at
