-- The answers that `reader::many::go_past` wants beside its invariants. Assumes nothing.
use mathlib.Core.Path.{◌∙◌, refl, sym}
use mathlib.Core.Bool.{true≢false}
use Prim.Native.Nat.{◌+◌, ◌≤◌}
use native.Mathlib.Omega.{arith}
use lib.ListN.{length, get_or, drop}
use Rattle.octet.specs.Decoding.{nib}
use Rattle.pages.specs.Seen.{seen_as}
use Rattle.reader.specs.Internal.{state_in, packet_at}
use Rattle.reader.proofs.Heeding.{acted}
use Rattle.reader.proofs.Running.{packet_length_lem}
use Rattle.reader.proofs.Marks.{went_none, went_then, went_one, mark-turns, turning_silent}
use Rattle.reader.proofs.many.go_past.Goals as goal

pub loop-at-init : goal.loop-at-init
loop-at-init c =
    let a = c.args in
    went_none a.setting a.alone a.packets.now a.limit a.start a.from a.store.now a.out.now c.requires.kept c.requires.startable

pub go_along-t-requires : goal.go_along-t-requires
go_along-t-requires c =
    let l = c.loop-at in
    record {
      kept = l.invariant.kept;
      startable = l.invariant.start;
    }

pub shape_of-out-then-t : goal.shape_of-out-then-t
shape_of-out-then-t c =
    c.go_along-t.ensures.went.long ∙ c.loop-at.invariant.long

pub returns-then-t : goal.returns-then-t
returns-then-t c =
    let a = c.args in
    let l = c.loop-at in
    let g = c.go_along-t in
    let w = went_then a.setting a.alone a.packets.now a.limit a.start a.from a.store.now a.out.now l.invariant g.ensures.went in
    record {
      went = w;
      full = λ e. g.ensures.full c.if-t.true;
      fits = λ e h. absurd (true≢false e);
      met = λ e h. absurd (true≢false e);
      mark = λ e h. absurd (true≢false e);
    }

pub shape_of-out-then-not-alone : goal.shape_of-out-then-not-alone
shape_of-out-then-not-alone c =
    c.go_along-t.ensures.went.long ∙ c.loop-at.invariant.long

pub returns-then-not-alone : goal.returns-then-not-alone
returns-then-not-alone c =
    let a = c.args in
    let l = c.loop-at in
    let g = c.go_along-t in
    let w = went_then a.setting a.alone a.packets.now a.limit a.start a.from a.store.now a.out.now l.invariant g.ensures.went in
    let f = c.if-t.false in
    record {
      went = w;
      full = λ e. absurd (true≢false (sym e));
      fits = λ e h. g.ensures.fits f h;
      met = λ e h. g.ensures.met f h;
      mark = λ e h. (c.if-not-alone.true, (g.ensures.mark f h).1);
    }

pub turn-a-requires : goal.turn-a-requires
turn-a-requires c =
    let a = c.args in
    let l = c.loop-at in
    let g = c.go_along-t in
    let w = went_then a.setting a.alone a.packets.now a.limit a.start a.from a.store.now a.out.now l.invariant g.ensures.went in
    let f = c.if-t.false in
    let t = c.if-at-packets.true in
    let at = g.result.at in
    let p = packet_at a.packets.now at in
    let h : at + 42 ≤ length a.packets.now = omega (arith, g.ensures.went.start.even, t) in
    let long = packet_length_lem a.packets.now at h in
    let v = c.judge-v.ensures in record {
      kept = g.ensures.went.kept;
      reads_value = rw v
          (turning_silent g.result.going.page g.result.going.index (seen_as a.setting g.result.address p)
          (mark-turns a.setting p long g.result.address (g.ensures.mark f t).1));
    }

pub loop-at-preserved-then-at-packets : goal.loop-at-preserved-then-at-packets
loop-at-preserved-then-at-packets c =
    let a = c.args in
    let l = c.loop-at in
    let g = c.go_along-t in
    let w = went_then a.setting a.alone a.packets.now a.limit a.start a.from a.store.now a.out.now l.invariant g.ensures.went in
    let f = c.if-t.false in
    let t = c.if-at-packets.true in
    let at = g.result.at in
    let p = packet_at a.packets.now at in
    let h : at + 42 ≤ length a.packets.now = omega (arith, g.ensures.went.start.even, t) in
    let long = packet_length_lem a.packets.now at h in
    let v = c.judge-v.ensures in
    let y = acted a.setting p (state_in g.result.going _) _ _ _ _ _ (g.ensures.met f t) v (c.turn-a.ensures (nib (get_or p 2 0)) (drop 3 p) _) in
    went_one a.setting a.alone a.packets.now a.limit a.start a.from a.store.now a.out.now w h (g.ensures.fits f t)
    (λ q. absurd (true≢false (sym c.if-not-alone.false ∙ q))) refl y

pub loop-at-preserved : goal.loop-at-preserved
loop-at-preserved c =
    let a = c.args in
    let l = c.loop-at in
    let g = c.go_along-t in
    let w = went_then a.setting a.alone a.packets.now a.limit a.start a.from a.store.now a.out.now l.invariant g.ensures.went in
    w

pub shape_of-out : goal.shape_of-out
shape_of-out c =
    c.loop-at.invariant.long

pub returns : goal.returns
returns c =
    let l = c.loop-at in
    record {
      went = l.invariant;
      full = λ e. absurd (true≢false (sym e));
      fits = λ e h. absurd (omega arith);
      met = λ e h. absurd (omega arith);
      mark = λ e h. absurd (omega arith);
    }

pub slice_bounds-judge-end : goal.slice_bounds-judge-end
slice_bounds-judge-end c =
    omega (arith, c.go_along-t.ensures.went.start.even, c.if-at-packets.true)
