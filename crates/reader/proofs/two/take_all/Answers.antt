-- The answers that `reader::two::take_all` wants beside its invariants. Assumes nothing.
use borrow.Author.Tests.{not-true, not-false}
use mathlib.Core.Path.{◌≡◌, ◌∙◌, refl, sym}
use Prim.Native.Nat.{◌+◌, ◌-◌, ◌≤◌}
use native.Mathlib.Omega.{arith}
use lib.ListN.{length}
use Rattle.walk.proofs.Keeping.{holds_kept}
use Rattle.reader.specs.Calls.{begun}
use Rattle.reader.specs.Two.{does_for_two}
use Rattle.reader.specs.Internal.{packet_at}
use Rattle.reader.specs.InternalTwo.{pair_in}
use Rattle.reader.proofs.Running.{packet_length_lem, run-full, run_out}
use Rattle.reader.proofs.RunningTwo.{begins_two, further_two, still_room_two}
use Rattle.reader.proofs.MarksTwo.{went_reached}
use Rattle.reader.proofs.two.take_all.Goals as goal

pub loop-at-init : goal.loop-at-init
loop-at-init c =
    let a = c.args in
    let p = c.requires in
    let e : length a.packets.now - 0 ≡ length a.packets.now = omega arith in
    let z = p.none_yet in (
      omega arith,
      omega (arith, p.packet_length_len),
      p.hold_len,
      refl,
      omega (arith, z.1),
      omega (arith, z.0),
      (begun (pair_in a.from a.store1.now a.store2.now), begins_two a.setting a.from a.out.now p.kept p.kept_2 z, rw e),
    )

pub shape_of-hold-then-out-q-lt-ROOM_OF_TWO : goal.shape_of-hold-then-out-q-lt-ROOM_OF_TWO
shape_of-hold-then-out-q-lt-ROOM_OF_TWO c =
    c.loop-at.invariant.2 ∙ sym c.requires.hold_len

pub shape_of-out-then-out-q-lt-ROOM_OF_TWO : goal.shape_of-out-then-out-q-lt-ROOM_OF_TWO
shape_of-out-then-out-q-lt-ROOM_OF_TWO c =
    c.loop-at.invariant.3

pub returns-then-out-q-lt-ROOM_OF_TWO : goal.returns-then-out-q-lt-ROOM_OF_TWO
returns-then-out-q-lt-ROOM_OF_TWO c =
    let a = c.args in
    let l = c.loop-at in
    let (b, w, q) = l.invariant.6 in
    let e = run-full (does_for_two a.setting) (length a.out.now) a.packets.now l.at b (omega (arith, w.came.written, l.invariant.3, c.if-out-q-lt-ROOM_OF_TWO.true)) in
    record {
      ran_of_two_to = rw (sym (e ∙ q)) w;
      written_in_bounds = l.invariant.4;
    }

pub overflow_sub-out-in-loop-at : goal.overflow_sub-out-in-loop-at
overflow_sub-out-in-loop-at c =
    let l = c.loop-at in
    omega (arith, l.invariant.3, l.invariant.4)

pub limit_for-limit-requires : goal.limit_for-limit-requires
limit_for-limit-requires c =
    let l = c.loop-at in
    omega (arith, l.invariant.3, l.invariant.4, c.if-out-q-lt-ROOM_OF_TWO.false)

pub go_on-t-requires : goal.go_on-t-requires
go_on-t-requires c =
    let l = c.loop-at in
    let m = c.limit_for-limit.ensures in
    let q = l.invariant.6 in record {
      setting_value = c.requires.setting_value;
      kept = holds_kept _ q.1.first.holds;
      kept_2 = holds_kept _ q.1.second.holds;
      at_in_bounds = (l.invariant.0, l.invariant.1);
      ample = record {
        one = m.0;
        held = omega (arith, m.1, l.invariant.2);
        few = l.invariant.5;
        long = omega (arith, m.0, m.2, l.invariant.3, l.invariant.4, c.if-out-q-lt-ROOM_OF_TWO.false);
      };
    }

pub overflow_add-next : goal.overflow_add-next
overflow_add-next c =
    let g = c.well_formed.1.1.1.1.0.0 in
    omega (arith, c.go_on-t.ensures.even, c.if-at-packets.true, g)

pub turn-a-requires : goal.turn-a-requires
turn-a-requires c =
    let a = c.args in
    let l = c.loop-at in
    let k = c.go_on-t in
    let x = k.ensures in
    let long = length a.out.now in
    let q = went_reached a.setting a.packets.now long l.invariant.3 x l.invariant.6 in
    let f = not-true _ c.if-not-t.true in
    let t = c.if-at-packets.true in
    let at = k.result.at in
    let h : at + 42 ≤ length a.packets.now = omega (arith, x.even, t) in
    let r : k.result.going.written + 2176 ≤ long = omega (arith, x.room f t, l.invariant.3) in record {
      kept = holds_kept _ q.1.first.holds;
      kept_2 = holds_kept _ q.1.second.holds;
      packet_len = packet_length_lem a.packets.now at h;
      address_value = x.met f t;
      address_value_2 = x.mark f t;
    }

pub loop-at-preserved-then-at-packets : goal.loop-at-preserved-then-at-packets
loop-at-preserved-then-at-packets c =
    let a = c.args in
    let l = c.loop-at in
    let k = c.go_on-t in
    let x = k.ensures in
    let long = length a.out.now in
    let q = went_reached a.setting a.packets.now long l.invariant.3 x l.invariant.6 in
    let f = not-true _ c.if-not-t.true in
    let t = c.if-at-packets.true in
    let at = k.result.at in
    let h : at + 42 ≤ length a.packets.now = omega (arith, x.even, t) in
    let r : k.result.going.written + 2176 ≤ long = omega (arith, x.room f t, l.invariant.3) in
    let p = packet_at a.packets.now at in
    let y = c.turn-a.ensures _ in
    let g = still_room_two a.setting p (packet_length_lem a.packets.now at h) (holds_kept _ q.1.first.holds) (holds_kept _ q.1.second.holds) y x.few in (
      h,
      omega (arith, x.even, h),
      k.auto.hold ∙ l.invariant.2,
      k.auto.out ∙ l.invariant.3,
      omega (arith, g.0, r),
      g.1,
      further_two a.setting long a.packets.now at h r y q,
    )

pub loop-at-preserved-else-at-packets : goal.loop-at-preserved-else-at-packets
loop-at-preserved-else-at-packets c =
    let a = c.args in
    let l = c.loop-at in
    let k = c.go_on-t in
    let x = k.ensures in
    let long = length a.out.now in
    let q = went_reached a.setting a.packets.now long l.invariant.3 x l.invariant.6 in (
      x.within,
      x.even,
      k.auto.hold ∙ l.invariant.2,
      k.auto.out ∙ l.invariant.3,
      omega (arith, x.fits, l.invariant.3),
      x.few,
      q,
    )

pub loop-at-smaller : goal.loop-at-smaller
loop-at-smaller c =
    omega (arith, c.go_on-t.ensures.some (not-false _ c.if-not-t.false), c.go_on-t.ensures.within)

pub loop-at-preserved : goal.loop-at-preserved
loop-at-preserved c =
    let a = c.args in
    let l = c.loop-at in
    let k = c.go_on-t in
    let x = k.ensures in
    let long = length a.out.now in
    let q = went_reached a.setting a.packets.now long l.invariant.3 x l.invariant.6 in (
      x.within,
      x.even,
      k.auto.hold ∙ l.invariant.2,
      k.auto.out ∙ l.invariant.3,
      omega (arith, x.fits, l.invariant.3),
      x.few,
      q,
    )

pub shape_of-hold : goal.shape_of-hold
shape_of-hold c =
    c.loop-at.invariant.2 ∙ sym c.requires.hold_len

pub shape_of-out : goal.shape_of-out
shape_of-out c =
    c.loop-at.invariant.3

pub returns : goal.returns
returns c =
    let a = c.args in
    let l = c.loop-at in
    let (b, w, q) = l.invariant.6 in
    let e = run_out (does_for_two a.setting) (length a.out.now) a.packets.now l.at b (omega arith) in
    record {
      ran_of_two_to = rw (sym (e ∙ q)) w;
      written_in_bounds = l.invariant.4;
    }

pub slice_bounds-turn-end : goal.slice_bounds-turn-end
slice_bounds-turn-end c =
    omega (arith, c.go_on-t.ensures.even, c.if-at-packets.true)
