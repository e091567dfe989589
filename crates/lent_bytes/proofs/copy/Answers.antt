-- The answers that `lent_bytes::copy` wants beside its invariants. Assumes nothing.
use mathlib.Core.Path.{◌∙◌, refl, sym}
use Prim.Native.Nat.{◌+◌}
use native.Mathlib.Omega.{arith}
use lib.ListN.{drop, length-set}
use Rattle.lent_bytes.proofs.Moving.{copy-begins, copy-on, copy-ends}
use Rattle.lent_bytes.proofs.copy.Goals as goal

pub loop-i-init : goal.loop-i-init
loop-i-init c =
    let a = c.args in
    let e = c.within-there.ensures in
    let f = c.within-m.ensures in
    (omega arith, omega (arith, e, f), omega (arith, f), refl, copy-begins a.dst.now a.src.now a.to a.from a.n e f)

pub loop-i-preserved : goal.loop-i-preserved
loop-i-preserved c =
    let l = c.loop-i in
    let a = c.args in (
      omega arith,
      l.invariant.1,
      l.invariant.2,
      simp length-set l.invariant.3,
      copy-on l.dst a.src.now a.to a.from c.within-m.result l.i (omega arith) (omega (arith, l.invariant.1)) ∙ l.invariant.4,
    )

pub returns : goal.returns
returns c =
    let l = c.loop-i in
    let a = c.args in
    sym (copy-ends l.dst (drop (a.from + l.i) a.src.now) (a.to + l.i) c.within-m.result l.i (omega arith)) ∙ l.invariant.4
