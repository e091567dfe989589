-- `day_sheet::rewrite` meets its contract: the judge says which rule refuses, then the room decides; what is copied is the text of the entries. Assumes nothing.
use borrow.Author.Rules.{rules}
use mathlib.Core.Path.{◌∙◌}
use Rattle.answer.proofs.Handing.{handed}
use Rattle.day_sheet.proofs.Rewriting.{rewrite-refused, rewrite-short, rewrite-done}
use Rattle.day_sheet.proofs.rewrite.Goals as goal

pub returns-then-out-n : goal.returns-then-out-n
returns-then-out-n c =
    let p = rewrite-short c.args.form c.args.sheet.now c.args.out.now c.judge.ensures c.in_ok-judge.was c.if-out-n.true in
    record {
      answer = c.refuse.ensures ∙ p.0;
      output = p.1;
    }

pub returns-in_err-judge : goal.returns-in_err-judge
returns-in_err-judge c =
    let it = rewrite-refused c.args.form c.args.sheet.now c.args.out.now c.judge.ensures c.in_err-judge.was in
    record { answer = handed c.from_residual.ensures ∙ it.0; output = it.1 }

pub returns : goal.returns
returns c =
    let it = rewrite-done c.args.form c.args.sheet.now c.args.out.now c.judge.ensures c.in_ok-judge.was (search rules) c.copy.ensures in
    record { answer = it.0; output = it.1 }
