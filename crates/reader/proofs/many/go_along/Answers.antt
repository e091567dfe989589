-- The answers that `reader::many::go_along` wants beside its invariants. Assumes nothing.
use mathlib.Core.Path.{◌∙◌, refl, sym}
use mathlib.Core.Bool.{false, true≢false}
use Prim.Native.Nat.{◌+◌, ◌≤◌}
use native.Mathlib.Omega.{arith}
use lib.ListN.{length}
use Rattle.pages.proofs.Judged.{as-packet, as-over, as-numbered}
use Rattle.reader.specs.Internal.{state_in, packet_at}
use Rattle.reader.proofs.Heeding.{acted, act-other}
use Rattle.reader.proofs.Running.{packet_length_lem}
use Rattle.reader.proofs.Marks.{went_none, went-passed, went_one, unmarked-within, unmarked-ours, seen_other}
use Rattle.reader.proofs.many.go_along.Goals as goal

pub loop-at-init : goal.loop-at-init
loop-at-init c =
    let a = c.args in
    went_none a.setting false a.packets.now a.limit a.start a.from a.store.now a.out.now c.requires.kept c.requires.startable

pub shape_of-out-then-limit-q-lt-ROOM : goal.shape_of-out-then-limit-q-lt-ROOM
shape_of-out-then-limit-q-lt-ROOM c =
    c.loop-at.invariant.long

pub returns-then-limit-q-lt-ROOM : goal.returns-then-limit-q-lt-ROOM
returns-then-limit-q-lt-ROOM c =
    let l = c.loop-at in
    record {
      went = l.invariant;
      full = λ e. omega (arith, c.if-limit-q-lt-ROOM.true, l.invariant.start.fits);
      fits = λ e h. absurd (true≢false e);
      met = λ e h. absurd (true≢false e);
      mark = λ e h. absurd (true≢false e);
    }

pub pass_on-met-requires : goal.pass_on-met-requires
pass_on-met-requires c =
    let l = c.loop-at in
    record {
      from_in_bounds = l.invariant.start.within;
      packet_length_value = l.invariant.start.even;
    }

pub shape_of-out-then-is_mark : goal.shape_of-out-then-is_mark
shape_of-out-then-is_mark c =
    c.loop-at.invariant.long

pub returns-then-is_mark : goal.returns-then-is_mark
returns-then-is_mark c =
    let a = c.args in
    let l = c.loop-at in
    let m = c.pass_on-met in
    let r : l.a.got.written + 2112 ≤ a.limit = omega (arith, c.if-limit-q-lt-ROOM.false, l.invariant.start.fits) in
    let w = went-passed a.setting false a.packets.now a.limit a.start a.from a.store.now a.out.now l.invariant m.ensures.0 r in
    record {
      went = w;
      full = λ e. absurd (true≢false (sym e));
      fits = λ e h. r;
      met = λ e h. (m.ensures.1 h).0;
      mark = λ e h. (refl, sym c.is_mark.ensures ∙ c.if-is_mark.true);
    }

pub overflow_cast-y : goal.overflow_cast-y
overflow_cast-y c =
    let a = c.args in
    let m = c.pass_on-met in
    let k = unmarked-within a.setting m.result.address (sym c.is_mark.ensures ∙ c.if-is_mark.false) in
    omega (arith, k)

pub heed-a-requires : goal.heed-a-requires
heed-a-requires c =
    let a = c.args in
    let l = c.loop-at in
    let m = c.pass_on-met in
    let r : l.a.got.written + 2112 ≤ a.limit = omega (arith, c.if-limit-q-lt-ROOM.false, l.invariant.start.fits) in
    let w = went-passed a.setting false a.packets.now a.limit a.start a.from a.store.now a.out.now l.invariant m.ensures.0 r in
    let u = sym c.is_mark.ensures ∙ c.if-is_mark.false in
    let x = m.result.address in
    let k = unmarked-within a.setting x u in
    let t = m.ensures.2 k in record {
      kept = l.invariant.kept;
      packet_len = packet_length_lem a.packets.now m.result.at (omega (arith, m.ensures.0.even, t));
      packet_room = record { long = omega (arith, r, l.invariant.start.room); few = l.invariant.start.few };
    }

pub loop-at-preserved-then-y-lt26 : goal.loop-at-preserved-then-y-lt26
loop-at-preserved-then-y-lt26 c =
    let a = c.args in
    let l = c.loop-at in
    let m = c.pass_on-met in
    let r : l.a.got.written + 2112 ≤ a.limit = omega (arith, c.if-limit-q-lt-ROOM.false, l.invariant.start.fits) in
    let w = went-passed a.setting false a.packets.now a.limit a.start a.from a.store.now a.out.now l.invariant m.ensures.0 r in
    let u = sym c.is_mark.ensures ∙ c.if-is_mark.false in
    let x = m.result.address in
    let k = unmarked-within a.setting x u in
    let t = m.ensures.2 k in
    let at = m.result.at in
    let p = packet_at a.packets.now at in
    let h : at + 42 ≤ length a.packets.now = omega (arith, m.ensures.0.even, t) in
    let long = packet_length_lem a.packets.now at h in
    let e = m.ensures.1 t in
    let o = unmarked-ours a.setting x u e.1 in
    let v = as-numbered l.a.page l.a.index c.judge_y-v.ensures
    (as-packet a.setting p long k o.0 o.1 (omega (arith, c.if-y-lt26.true))) in
    let y = acted a.setting p (state_in l.a l.store) _ _ _ _ _ e.0 v c.heed-a.ensures in
    went_one a.setting false a.packets.now a.limit a.start a.from a.store.now a.out.now w h r (λ q. rw e.0 at u)
    c.heed-a.auto.out y

pub loop-at-preserved : goal.loop-at-preserved
loop-at-preserved c =
    let a = c.args in
    let l = c.loop-at in
    let m = c.pass_on-met in
    let r : l.a.got.written + 2112 ≤ a.limit = omega (arith, c.if-limit-q-lt-ROOM.false, l.invariant.start.fits) in
    let w = went-passed a.setting false a.packets.now a.limit a.start a.from a.store.now a.out.now l.invariant m.ensures.0 r in
    let u = sym c.is_mark.ensures ∙ c.if-is_mark.false in
    let x = m.result.address in
    let k = unmarked-within a.setting x u in
    let t = m.ensures.2 k in
    let at = m.result.at in
    let p = packet_at a.packets.now at in
    let h : at + 42 ≤ length a.packets.now = omega (arith, m.ensures.0.even, t) in
    let long = packet_length_lem a.packets.now at h in
    let e = m.ensures.1 t in
    let o = unmarked-ours a.setting x u e.1 in
    let z = as-over a.setting p long k o.0 (omega (arith, c.if-y-lt26.false)) in
    went_one a.setting false a.packets.now a.limit a.start a.from a.store.now a.out.now w h r (λ q. rw e.0 at u)
    refl (act-other l.a l.out l.invariant.kept (seen_other a.setting p e.0 z))

pub shape_of-out : goal.shape_of-out
shape_of-out c =
    c.loop-at.invariant.long

pub returns : goal.returns
returns c =
    let l = c.loop-at in
    record {
      went = l.invariant;
      full = λ e. absurd (true≢false (sym e));
      fits = λ e h. absurd (omega arith);
      met = λ e h. absurd (omega arith);
      mark = λ e h. absurd (omega arith);
    }

pub slice_bounds-heed-end : goal.slice_bounds-heed-end
slice_bounds-heed-end c =
    let m = c.pass_on-met in
    let u = sym c.is_mark.ensures ∙ c.if-is_mark.false in
    let t = m.ensures.2 (unmarked-within c.args.setting m.result.address u) in
    omega (arith, m.ensures.0.even, t)
