-- `menu_listing::lines::text_place` meets its contract: what is left of the attributes from here on. Assumes nothing.
use mathlib.Core.Path.{◌≡◌}
use Prim.Native.Nat.{◌+◌, ◌-◌, ◌*◌, ◌≤◌}
use lib.ListN.{drop}
use Rattle.menu_listing.specs.Internal.{attributes_length, text_place}
use Rattle.menu_listing.proofs.lines.text_place.Given as goal

abbrev pub invariant-loop : goal.invariant-loop
invariant-loop l =
    (l.at ≤ l.i + 4 + 5 * l.counter)
    × (l.at + attributes_length (l.attributes - l.counter) (drop l.at l.form) ≡ l.i + text_place (drop l.i l.form))
