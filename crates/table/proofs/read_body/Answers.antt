-- `table::read_body` meets its contract: `judge_body` says which rule refuses or how many bytes are needed, then the room decides.
-- Assumes nothing.
use borrow.Author.Rules.{rules}
use mathlib.Core.Path.{◌∙◌, ap}
use mathlib.Core.List.{map}
use native.Mathlib.Omega.{arith}
use Rattle.std.specs.declared.result.Result.TheVariants.{Ok}
use Rattle.answer.proofs.Handing.{handed}
use Rattle.answer.proofs.Lent.{lent-refused, lent-short, lent-done, lent-value}
use Rattle.octet.specs.Decoding.{nib}
use Rattle.fields.specs.Compound.{compound}
use Rattle.forms.specs.Form.{form}
use Rattle.table.specs.Control.{table_of}
use Rattle.table.specs.Internal.{body_rules}
use Rattle.table.proofs.Places.{opening-at}
use Rattle.table.proofs.read_body.Goals as goal

pub judge_body-requires : goal.judge_body-requires
judge_body-requires c =
    (search rules, c.opening_of-opening.ensures ∙ opening-at (compound c.args.body.now))

pub write_form-requires : goal.write_form-requires
write_form-requires c =
    c.opening_of-opening.ensures ∙ opening-at (compound c.args.body.now)

pub returns-then-out-need : goal.returns-then-out-need
returns-then-out-need c =
    let a = c.args in
    let n = compound a.body.now in
    let rules = body_rules a.head (map nib a.body.now) in
    let j = c.judge_body.ensures in
    let d = c.in_ok-need.was in
    let e = lent-value rules (form (table_of n)) a.out.now _ j d in
    let p = lent-short rules (form (table_of n)) a.out.now _ j d (omega (arith, e)) in
    record {
      answer = c.refuse.ensures ∙ p.0;
      output = p.1;
    }

pub returns-in_err-need : goal.returns-in_err-need
returns-in_err-need c =
    let a = c.args in
    let n = compound a.body.now in
    let rules = body_rules a.head (map nib a.body.now) in
    let j = c.judge_body.ensures in
    let it = lent-refused rules (form (table_of n)) a.out.now _ j c.in_err-need.was in
    record { answer = handed c.from_residual.ensures ∙ it.0; output = it.1 }

pub returns : goal.returns
returns c =
    let a = c.args in
    let n = compound a.body.now in
    let rules = body_rules a.head (map nib a.body.now) in
    let j = c.judge_body.ensures in
    let d = c.in_ok-need.was in
    let e = lent-value rules (form (table_of n)) a.out.now _ j d in
    let p = lent-done rules (form (table_of n)) a.out.now _ j d (omega (arith, e)) in record {
      answer = ap Ok e ∙ p.0;
      output = c.write_form.ensures ∙ p.1;
    }
