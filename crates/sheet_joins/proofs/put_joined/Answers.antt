-- The answers that `sheet_joins::put_joined` wants beside its invariants. Assumes nothing.
use mathlib.Core.Path.{◌∙◌, refl, ap}
use mathlib.Core.List.{List}
use Prim.Native.Nat.{ℕ}
use native.Mathlib.Omega.{arith}
use lib.ListN.{length, drop}
use lib.Seq.{length-sets}
use Rattle.sheet_joins.specs.Internal.{turn_text}
use Rattle.sheet_joins.proofs.Turning.{along-start, along-on, along-end, along-fits}
use Rattle.sheet_joins.proofs.put_joined.Goals as goal

pub loop-t-init : goal.loop-t-init
loop-t-init c =
    (along-start c.args.form c.args.first.now c.args.second.now c.args.out.now c.requires.0 c.requires.1, refl)

pub put_turn-q-requires : goal.put_turn-q-requires
put_turn-q-requires c =
    let f = along-fits c.args.form c.loop-t.invariant.0 c.in-Some.ensures in
    (f.0, f.1)

pub overflow_add-i : goal.overflow_add-i
overflow_add-i c =
    let f = along-fits c.args.form c.loop-t.invariant.0 c.in-Some.ensures in
    omega (arith, f.2, c.passed-a.ensures.0, c.requires.0.within.short)

pub overflow_add-j : goal.overflow_add-j
overflow_add-j c =
    let f = along-fits c.args.form c.loop-t.invariant.0 c.in-Some.ensures in
    omega (arith, f.3, c.passed-a.ensures.1, c.requires.1.within.short)

pub overflow_add-n : goal.overflow_add-n
overflow_add-n c =
    let l = c.loop-t in
    let f = l.invariant.0.in_first.within in
    let g = l.invariant.0.in_second.within in
    omega (arith, l.invariant.0.count_small)

pub loop-t-smaller : goal.loop-t-smaller
loop-t-smaller c =
    let f = along-fits c.args.form c.loop-t.invariant.0 c.in-Some.ensures in
    omega (arith, f.2, f.3, f.4, c.passed-a.ensures.0, c.passed-a.ensures.1)

pub loop-t-preserved : goal.loop-t-preserved
loop-t-preserved c =
    let l = c.loop-t in
    let e = c.put_turn-q.ensures in
    let first : List ℕ = c.args.first.now in
    let second : List ℕ = c.args.second.now in (
      rw (c.passed-a.ensures.0, c.passed-a.ensures.1) (along-on c.args.form l.invariant.0 c.in-Some.ensures e.0 e.1),
      ap length e.0 ∙ length-sets l.out l.q (turn_text c.in-Some.t (drop l.i first) (drop l.j second)) ∙ l.invariant.1,
    )

pub returns : goal.returns
returns c =
    along-end c.args.form c.loop-t.invariant.0 c.in_default.ensures
