-- `sheet_entry::writing::judge_entry` meets its contract: the table form's rules, then the number. Assumes nothing.
use mathlib.Core.Path.{◌∙◌}
use native.Mathlib.Omega.{arith}
use Rattle.answer.proofs.Handing.{handed}
use Rattle.answer.proofs.Steps.{ends}
use Rattle.forms.specs.Writing.{form_rules}
use Rattle.sheet_entry.proofs.Spelling.{number-over, number_fits}
use Rattle.sheet_entry.proofs.writing.judge_entry.Goals as goal

pub returns-then-mended_most-mended : goal.returns-then-mended_most-mended
returns-then-mended_most-mended c =
    let m = c.mended_most.ensures in
    c.refuse.ensures
    ∙ number-over c.args.form c.args.mended c.args.table.now _ c.judge_form.ensures c.in_ok-judge_form.was
    (omega (arith, c.if-mended_most-mended.true, m))

pub returns-in_err-judge_form : goal.returns-in_err-judge_form
returns-in_err-judge_form c =
    handed c.from_residual.ensures
    ∙ ends (form_rules c.args.table.now) _ _ c.judge_form.ensures _ c.in_err-judge_form.was

pub returns : goal.returns
returns c =
    let m = c.mended_most.ensures in
    number_fits c.args.form c.args.mended c.args.table.now _ c.judge_form.ensures c.in_ok-judge_form.was
    (omega (arith, c.if-mended_most-mended.false, m))
