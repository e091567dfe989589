-- The answers that `changes::put_changes` wants beside its invariants. Assumes nothing.
use mathlib.Core.Path.{◌∙◌, refl, ap}
use mathlib.Core.List.{List}
use Prim.Native.Nat.{ℕ}
use native.Mathlib.Omega.{arith}
use lib.ListN.{length, drop}
use lib.Seq.{length-sets}
use Rattle.changes.specs.Internal.{turn_change}
use Rattle.changes.proofs.Putting.{walk_start, walk-on, walk_end, walk-fits}
use Rattle.changes.proofs.put_changes.Goals as goal

pub loop-t-init : goal.loop-t-init
loop-t-init c =
    (walk_start c.args.form c.args.first.now c.args.second.now c.args.out.now c.requires.0 c.requires.1, refl)

pub put_change-q-requires : goal.put_change-q-requires
put_change-q-requires c =
    let f = walk-fits c.args.form c.loop-t.invariant.0 c.in-Some.ensures in
    (f.0, f.1)

pub overflow_add-i : goal.overflow_add-i
overflow_add-i c =
    let f = walk-fits c.args.form c.loop-t.invariant.0 c.in-Some.ensures in
    omega (arith, f.2, c.passed-a.ensures.0, c.requires.0.within.short)

pub overflow_add-j : goal.overflow_add-j
overflow_add-j c =
    let f = walk-fits c.args.form c.loop-t.invariant.0 c.in-Some.ensures in
    omega (arith, f.3, c.passed-a.ensures.1, c.requires.1.within.short)

pub loop-t-smaller : goal.loop-t-smaller
loop-t-smaller c =
    let f = walk-fits c.args.form c.loop-t.invariant.0 c.in-Some.ensures in
    omega (arith, f.2, f.3, f.4, c.passed-a.ensures.0, c.passed-a.ensures.1)

pub loop-t-preserved : goal.loop-t-preserved
loop-t-preserved c =
    let l = c.loop-t in
    let e = c.put_change-q.ensures in
    let first : List ℕ = c.args.first.now in
    let second : List ℕ = c.args.second.now in (
      rw (c.passed-a.ensures.0, c.passed-a.ensures.1) (walk-on c.args.form l.invariant.0 c.in-Some.ensures e),
      ap length e.stored ∙ length-sets l.out l.q (turn_change c.in-Some.t (drop l.i first) (drop l.j second)) ∙ l.invariant.1,
    )

pub returns : goal.returns
returns c = walk_end c.args.form c.loop-t.invariant.0 c.in_default.ensures
