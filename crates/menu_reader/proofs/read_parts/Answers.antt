-- `menu_reader::read_parts` meets its contract: `judge_lengths` says which rule refuses or how many bytes are needed, then the room decides.
-- Assumes nothing.
use mathlib.Core.Path.{◌∙◌, ap}
use native.Mathlib.Omega.{arith}
use Rattle.std.specs.declared.result.Result.TheVariants.{Ok}
use Rattle.answer.proofs.Handing.{handed}
use Rattle.answer.proofs.Lent.{lent-refused, lent-short, lent-done, lent-value}
use Rattle.menu_forms.specs.Form.{form}
use Rattle.menu_reader.specs.Reading.{sent_held, menu_held, length_rules}
use Rattle.menu_reader.proofs.read_parts.Goals as goal

pub returns-then-out-need : goal.returns-then-out-need
returns-then-out-need c =
    let a = c.args in
    let rules = length_rules a.size (sent_held a.control.now a.strings.now) in
    let bytes = form (menu_held a.control.now a.strings.now) in
    let j = c.judge_lengths.ensures in
    let d = c.in_ok-need.was in
    let e = lent-value rules bytes a.out.now _ j d in
    let p = lent-short rules bytes a.out.now _ j d (omega (arith, e)) in
    record {
      answer = c.refuse.ensures ∙ p.0;
      output = p.1;
    }

pub returns-in_err-need : goal.returns-in_err-need
returns-in_err-need c =
    let a = c.args in
    let rules = length_rules a.size (sent_held a.control.now a.strings.now) in
    let bytes = form (menu_held a.control.now a.strings.now) in
    let j = c.judge_lengths.ensures in
    let it = lent-refused rules bytes a.out.now _ j c.in_err-need.was in
    record { answer = handed c.from_residual.ensures ∙ it.0; output = it.1 }

pub returns : goal.returns
returns c =
    let a = c.args in
    let rules = length_rules a.size (sent_held a.control.now a.strings.now) in
    let bytes = form (menu_held a.control.now a.strings.now) in
    let j = c.judge_lengths.ensures in
    let d = c.in_ok-need.was in
    let e = lent-value rules bytes a.out.now _ j d in
    let p = lent-done rules bytes a.out.now _ j d (omega (arith, e)) in
    record {
      answer = ap Ok e ∙ p.0;
      output = c.spell.ensures.0.writes ∙ p.1;
    }
