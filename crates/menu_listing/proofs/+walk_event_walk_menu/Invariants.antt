-- The measure of the cycle of calls {walk_event, walk_menu} is twice the levels left below, and one more in the menu walk. The loop's
-- invariant: what is still to be put from here makes what was to be put when it began, stopped past the room or not.
use Prim.Native.Nat.{◌+◌, ◌-◌, ◌*◌, ◌≤◌}
use lib.ListN.{drop}
use Rattle.menu_listing.specs.Listing.{lines_of}
use Rattle.menu_listing.specs.Internal.{menus_from, events_lines_at, beyond, event_most, place_most}
use Rattle.menu_listing.proofs.Pens.{Rest}
use Rattle.menu_listing.proofs.+walk_event_walk_menu.Given as goal

abbrev pub decreases-walk_event : goal.decreases-walk_event
decreases-walk_event l = 2 * l.below

abbrev pub decreases-walk_menu : goal.decreases-walk_menu
decreases-walk_menu l = 2 * l.below + 1

abbrev pub invariant-walk_menu-loop : goal.invariant-walk_menu-loop
invariant-walk_menu-loop l =
    let follow = lines_of (menus_from l.source l.list l.heads) l.levels l.below in
    let level = l.levels - l.below in
    record {
      in_form : l.i + event_most * (l.events - l.counter) ≤ place_most;
      in_reach : l.p ≤ l.room + beyond;
      rest : Rest l.room l.out l.p (events_lines_at follow level (l.events - l.counter) (drop l.i l.form))
          l.initial.out l.initial.p (events_lines_at follow level l.events (drop l.initial.i l.form));
    }
