-- `shelf::find` meets its contract: what is found on the way from here is what is found from the row's head. The measure is the entry's place.
-- Assumes nothing.
use mathlib.Core.Path.{◌≡◌}
use Prim.Native.Nat.{◌≤◌}
use Rattle.shelf.specs.Shelf.{way_back, place_of}
use Rattle.shelf.specs.Putting.{shelf_most}
use Rattle.shelf.proofs.find.Given as goal

abbrev pub invariant-loop-number : goal.invariant-loop-number
invariant-loop-number l =
    (l.p ≤ shelf_most) × (way_back l.p l.number l.p l.shelf ≡ place_of l.number l.heads l.shelf)

abbrev pub decreases-loop-number : goal.decreases-loop-number
decreases-loop-number l = l.p
