-- `sheet_joins::judge_join` meets its contract: a law for each rule that refuses, and then the size decides. Assumes nothing.
use mathlib.Core.Path.{◌∙◌}
use native.Mathlib.Omega.{arith}
use Rattle.answer.proofs.Handing.{handed}
use Rattle.std.specs.declared.result.Result.TheVariants.{Ok}
use Rattle.day_sheet.proofs.Counted.{counted-short, counted-fine, counted-halfway}
use Rattle.sheet_joins.proofs.Judged.{second-long, first-bad, second-bad, size-decides}
use Rattle.sheet_joins.proofs.judge_join.Goals as goal

pub returns-then-limit-second : goal.returns-then-limit-second
returns-then-limit-second c =
    let a = c.args in
    c.refuse.ensures ∙ second-long a.form a.first.now a.second.now (Ok _) (omega (arith, c.limit.ensures.0, c.if-limit-second.true))

pub measure-size-requires : goal.measure-size-requires
measure-size-requires c =
    let a = c.args in (
      counted-halfway a.form a.first.now c.count.ensures c.in_ok-count.was,
      counted-halfway a.form a.second.now c.count-2.ensures c.in_ok-count-2.was,
    )

pub returns-in_err-count : goal.returns-in_err-count
returns-in_err-count c =
    let a = c.args in
    handed c.from_residual.ensures
    ∙ first-bad a.form a.first.now a.second.now (Ok _) (omega (arith, c.limit.ensures.0, c.if-limit-second.false)) c.count.ensures c.in_err-count.was

pub returns-in_err-count-2 : goal.returns-in_err-count-2
returns-in_err-count-2 c =
    let a = c.args in
    let counts = c.count.ensures in
    let done = c.in_ok-count.was in
    handed c.from_residual-in_err-count-2.ensures
    ∙ second-bad a.form a.first.now a.second.now (Ok _) (omega (arith, c.limit.ensures.0, c.if-limit-second.false)) (counted-short a.form a.first.now counts done)
    (counted-fine a.form a.first.now counts done) c.count-2.ensures c.in_err-count-2.was

pub returns : goal.returns
returns c =
    let a = c.args in
    let m = c.measure-size in
    let counts = c.count.ensures in
    let done = c.in_ok-count.was in
    let counts2 = c.count-2.ensures in
    let done2 = c.in_ok-count-2.was in
    c.judge_size.ensures
    ∙ size-decides a.form a.first.now a.second.now (counted-short a.form a.first.now counts done) (counted-short a.form a.second.now counts2 done2)
    (counted-fine a.form a.first.now counts done) (counted-fine a.form a.second.now counts2 done2) m.ensures.0 m.ensures.1
