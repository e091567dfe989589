-- The answers that the cycle of calls {walk_event, walk_menu} wants beside its invariants. Assumes nothing.
use mathlib.Core.List.{List}
use mathlib.Core.Path.{◌≡◌}
use Prim.Native.Nat.{ℕ, ◌+◌, ◌-◌, ◌<◌}
use native.Mathlib.Omega.{arith}
use Rattle.text_lines.proofs.Printed.{put_as, put-none}
use Rattle.menu_listing.specs.Listing.{lines_of}
use Rattle.menu_listing.specs.Internal.{menus_from}
use Rattle.menu_listing.proofs.Pens.{penned, stopped, penned_as, pen_on}
use Rattle.menu_listing.proofs.Walks.{not-followed, followed, at-bottom, level_down, not-held, held-lines, events-on, events-end}
use Rattle.menu_listing.proofs.+walk_event_walk_menu.Goals as goal

pub walk_event-returns-then-byte_at-ne-TO_MENU : goal.walk_event-returns-then-byte_at-ne-TO_MENU
walk_event-returns-then-byte_at-ne-TO_MENU t c =
    let p = c.put_event-p.ensures in
    let s = c.args in
    let follow = lines_of (menus_from s.source s.list.now s.heads.now) s.levels s.below in
    let e = not-followed follow (s.levels - s.below) s.i _ s.form.now c.byte_at.ensures.0 c.if-byte_at-ne-TO_MENU.true in
    (penned (put_as e p.0), omega (arith, p.1, c.requires))

pub walk_event-returns-then-below-eq0 : goal.walk_event-returns-then-below-eq0
walk_event-returns-then-below-eq0 t c =
    let q = c.put_line.ensures in
    let l = c.link_at-link in
    let p = c.put_event-p.ensures in
    let s = c.args in
    let menus = menus_from s.source s.list.now s.heads.now in
    let e =
    followed (lines_of menus s.levels s.below) (s.levels - s.below) s.i _ s.form.now c.byte_at.ensures.0 l.result c.if-byte_at-ne-TO_MENU.false
    l.ensures.0 in
    let d = at-bottom menus s.levels s.below l.result (omega (arith, c.if-below-eq0.true)) in
    (penned_as e (pen_on (penned p.0) (penned (put_as d q.0))), omega (arith, p.1, q.1, c.requires))

pub walk_event-returns : goal.walk_event-returns
walk_event-returns t c =
    let q = c.walk_menu.ensures in
    let l = c.link_at-link in
    let p = c.put_event-p.ensures in
    let s = c.args in
    let menus = menus_from s.source s.list.now s.heads.now in
    let e =
    followed (lines_of menus s.levels s.below) (s.levels - s.below) s.i _ s.form.now c.byte_at.ensures.0 l.result c.if-byte_at-ne-TO_MENU.false
    l.ensures.0 in
    let d = level_down menus s.levels s.below l.result c.if-below-eq0.false in
    (penned_as e (pen_on (penned p.0) (penned_as d q.0)), q.1)

pub walk_menu-returns-then-not-find_form : goal.walk_menu-returns-then-not-find_form
walk_menu-returns-then-not-find_form t c =
    let p = c.put_line.ensures in
    let s = c.args in
    let menus = menus_from s.source s.list.now s.heads.now in
    let e = not-held menus s.levels s.below s.number _ c.find_form.ensures c.if-not-find_form.true in
    (penned (put_as e p.0), omega (arith, p.1, c.if-room-q.false))

pub walk_menu-returns-then-room-p : goal.walk_menu-returns-then-room-p
walk_menu-returns-then-room-p t c =
    let l = c.loop in
    let i = c.events_place-i in
    let n = c.byte_at-events in
    let s = c.args in
    let menus = menus_from s.source s.list.now s.heads.now in
    let e =
    held-lines menus s.levels s.below s.number _ c.find_form.ensures n.result i.result n.ensures.0 i.ensures.0
    c.if-not-find_form.false in
    (penned_as e (pen_on (penned c.put_head-p.ensures.0) (l.invariant.rest _ _ (stopped _ _ c.if-room-p.true))), l.invariant.in_reach)

pub walk_menu-loop-preserved : goal.walk_menu-loop-preserved
walk_menu-loop-preserved t c =
    let q = c.walk_event-p in
    let n = c.next_event-i.ensures in
    let l = c.loop in
    let s = c.args in
    let follow = lines_of (menus_from s.source s.list.now s.heads.now) s.levels s.below in
    let left = c.byte_at-events.result - l.counter in
    let some : 0 < left = omega arith in
    let fewer : c.byte_at-events.result - (l.counter + 1) ≡ left - 1 = omega arith in
    let e = events-on follow (s.levels - s.below) left l.i _ _ some n.0 in
    rw fewer record {
      in_form = omega (arith, l.invariant.in_form, n.1, some);
      in_reach = q.ensures.1;
      rest = λ (out' : List ℕ) (q' : ℕ) w. l.invariant.rest out' q' (penned_as e (pen_on q.ensures.0 w));
    }

pub walk_menu-returns : goal.walk_menu-returns
walk_menu-returns t c =
    let l = c.loop in
    let i = c.events_place-i in
    let n = c.byte_at-events in
    let s = c.args in
    let menus = menus_from s.source s.list.now s.heads.now in
    let e =
    held-lines menus s.levels s.below s.number _ c.find_form.ensures n.result i.result n.ensures.0 i.ensures.0
    c.if-not-find_form.false in
    let over = events-end (lines_of menus s.levels s.below) (s.levels - s.below) (n.result - l.counter) l.i _ (omega arith) in
    let rest = l.invariant.rest _ _ (penned (put_as over (put-none _ _))) in
    (penned_as e (pen_on (penned c.put_head-p.ensures.0) rest), l.invariant.in_reach)
