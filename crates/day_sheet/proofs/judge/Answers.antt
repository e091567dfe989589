-- `day_sheet::judge` meets its contract: a law for each way. Assumes nothing.
use borrow.Author.Rules.{rules}
use mathlib.Core.Path.{◌∙◌}
use Rattle.answer.proofs.Handing.{handed}
use Rattle.std.specs.declared.result.Result.TheVariants.{Ok}
use Rattle.day_sheet.proofs.Rewriting.{judge-bad, judge-many, judge-good}
use Rattle.day_sheet.proofs.judge.Goals as goal

pub returns-then-held-gt-ENTRIES : goal.returns-then-held-gt-ENTRIES
returns-then-held-gt-ENTRIES c =
    let a = c.args in
    c.refuse.ensures
    ∙ judge-many a.form a.sheet.now (Ok _) c.count.ensures c.in_ok-held.was (search rules)

pub returns-in_err-held : goal.returns-in_err-held
returns-in_err-held c =
    let a = c.args in
    handed c.from_residual.ensures
    ∙ judge-bad a.form a.sheet.now (Ok _) c.count.ensures c.in_err-held.was

pub returns : goal.returns
returns c =
    let a = c.args in
    judge-good a.form a.sheet.now (Ok _) c.count.ensures c.in_ok-held.was (search rules)
