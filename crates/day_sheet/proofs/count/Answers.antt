-- `day_sheet::count` meets its contract: by the tests. Assumes nothing.
use mathlib.Core.Path.{◌∙◌}
use native.Mathlib.Omega.{arith}
use Rattle.std.specs.declared.result.Result.TheVariants.{Ok}
use Rattle.day_sheet.proofs.Rewriting.{count_long, count-bad, count-good}
use Rattle.day_sheet.proofs.count.Goals as goal

pub returns-then-limit-sheet : goal.returns-then-limit-sheet
returns-then-limit-sheet c =
    let a = c.args in
    c.refuse.ensures ∙ count_long a.form a.sheet.now (Ok _) (omega (arith, c.limit.ensures.0, c.if-limit-sheet.true))

pub returns-in-Err : goal.returns-in-Err
returns-in-Err c =
    let a = c.args in
    c.refuse-in-Err.ensures ∙ count-bad a.form a.sheet.now (omega (arith, c.limit.ensures.0, c.if-limit-sheet.false)) c.in-Err.ensures (Ok _)

pub returns-in-Ok : goal.returns-in-Ok
returns-in-Ok c =
    let a = c.args in
    count-good a.form a.sheet.now (omega (arith, c.limit.ensures.0, c.if-limit-sheet.false)) c.in-Ok.ensures
