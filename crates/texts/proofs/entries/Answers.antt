-- The answers that `texts::entries` wants beside its invariants. Assumes nothing.
use Rattle.std.proofs.Common.{◌∙◌, sym, arith}
use borrow.Author.Tests.{eq-eqb, ne_eqb}
use Rattle.texts.proofs.Walking.{line_on, lines_end}
use Rattle.texts.proofs.entries.Goals as goal
use Rattle.texts.proofs.entries.Goals.{then-ends+then-is_end, else-ends, else-ends-via-then-ends+else-is_end, else-ends-via-else-ends}

pub loop-b-preserved : goal.loop-b-preserved
loop-b-preserved c =
    let l = c.loop-b in
    elim c.if-ends.branch [
      | then-ends+then-is_end w ↦
          (omega arith, rw w.is_end-is (line_on c.args.text.now l.b-index l.count l.is_end (omega arith) (rw (eq-eqb _ _ w.if-ends.true, w.if-is_end.true) w.count-is) ∙ l.invariant.1))
      | else-ends w ↦ (
        omega arith,
        rw w.is_end-is (line_on c.args.text.now l.b-index l.count l.is_end (omega arith) (elim w.else-ends.branch [
          | else-ends-via-then-ends+else-is_end v ↦ rw (eq-eqb _ _ v.if-ends.true, v.if-is_end.false) (omega arith)
          | else-ends-via-else-ends v ↦ rw (ne_eqb _ _ v.if-ends.false) (omega arith)
        ]) ∙ l.invariant.1),
      )
    ]

pub returns : goal.returns
returns c = let l = c.loop-b in
    sym (lines_end _ l.b-index l.count l.is_end (omega arith)) ∙ l.invariant.1
