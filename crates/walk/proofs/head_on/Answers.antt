-- The answers that `walk::head_on` wants beside its invariants. Assumes nothing.
use mathlib.Core.Path.{◌∙◌, sym}
use native.Mathlib.Omega.{arith}
use lib.ListN.{get_or}
use Rattle.octet.proofs.Hearing.{mark-nib}
use Rattle.walk.proofs.Heading.{marked, head_on, head-cut, head-broken, head-whole}
use Rattle.walk.proofs.head_on.Goals as goal

pub returns-then-i-s-clause-s_value : goal.returns-then-i-s-clause-s_value
returns-then-i-s-clause-s_value c =
    let l = c.loop-g in
    sym l.invariant.4 ∙ head-cut c.args.s.now l.i l.g l.bits l.part (omega arith) (omega arith)

pub returns-then-n-eq16-clause-s_value : goal.returns-then-n-eq16-clause-s_value
returns-then-n-eq16-clause-s_value c =
    let l = c.loop-g in
    let n = mark-nib c.mark-mark.result (get_or c.args.s.now l.i 0) c.mark-mark.ensures in
    sym l.invariant.4 ∙ head-broken c.args.s.now l.i l.g l.bits l.part (omega arith) (omega arith) (sym n ∙ c.if-n-eq16.true)

pub overflow_mul-bits : goal.overflow_mul-bits
overflow_mul-bits c = omega (arith, marked _ _ c.mark-mark.ensures)

pub overflow_add-bits : goal.overflow_add-bits
overflow_add-bits c = omega (arith, marked _ _ c.mark-mark.ensures)

pub loop-g-preserved : goal.loop-g-preserved
loop-g-preserved c =
    let l = c.loop-g in
    let m = c.mark-mark in
    let k = marked _ _ m.ensures in (
      λ w. omega arith,
      omega arith,
      omega (arith, k),
      omega (arith, k),
      head_on c.args.s.now l.i l.g l.bits l.part m.result (omega arith) (omega arith) m.ensures c.if-n-eq16.false ∙ l.invariant.4,
    )

pub returns-clause-s_value : goal.returns-clause-s_value
returns-clause-s_value c =
    let l = c.loop-g in
    sym l.invariant.4 ∙ head-whole c.args.s.now l.i l.g l.bits l.part (omega arith)
