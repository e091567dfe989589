-- `information::read_parts` meets its contract: `judge_lengths` says which rule refuses or how many bytes are needed, then the room decides.
-- Assumes nothing.
use mathlib.Core.Path.{◌∙◌, ap}
use Prim.Native.Nat.{◌+◌}
use native.Mathlib.Omega.{arith}
use lib.ListN.{length}
use Rattle.std.specs.declared.result.Result.TheVariants.{Ok}
use Rattle.answer.proofs.Handing.{handed}
use Rattle.answer.proofs.Lent.{lent-refused, lent-short, lent-done, lent-value}
use Rattle.kinds.specs.Reading.{carried_by, length_rules}
use Rattle.information_forms.specs.Form.{form}
use Rattle.information_forms.specs.Kind.{information}
use Rattle.information.specs.Internal.{held}
use Rattle.information.proofs.read_parts.Goals as goal

pub returns-then-out-need : goal.returns-then-out-need
returns-then-out-need c =
    let a = c.args in
    let rules = length_rules information (length a.control.now + length a.strings.now) (carried_by information a.control.now a.strings.now) in
    let bytes = form (held a.control.now a.strings.now) in
    let j = c.judge_lengths.ensures in
    let d = c.in_ok-need.was in
    let e = lent-value rules bytes a.out.now _ j d in
    let p = lent-short rules bytes a.out.now _ j d (omega (arith, e)) in
    record {
      answer = c.refuse.ensures ∙ p.0;
      output = p.1;
    }

pub returns-in_err-need : goal.returns-in_err-need
returns-in_err-need c =
    let a = c.args in
    let rules = length_rules information (length a.control.now + length a.strings.now) (carried_by information a.control.now a.strings.now) in
    let bytes = form (held a.control.now a.strings.now) in
    let j = c.judge_lengths.ensures in
    let it = lent-refused rules bytes a.out.now _ j c.in_err-need.was in
    record { answer = handed c.from_residual.ensures ∙ it.0; output = it.1 }

pub returns : goal.returns
returns c =
    let a = c.args in
    let rules = length_rules information (length a.control.now + length a.strings.now) (carried_by information a.control.now a.strings.now) in
    let bytes = form (held a.control.now a.strings.now) in
    let j = c.judge_lengths.ensures in
    let d = c.in_ok-need.was in
    let e = lent-value rules bytes a.out.now _ j d in
    let p = lent-done rules bytes a.out.now _ j d (omega (arith, e)) in
    record {
      answer = ap Ok e ∙ p.0;
      output = c.spell.ensures.2 ∙ p.1;
    }
