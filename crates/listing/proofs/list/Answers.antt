-- `listing::list` meets its contract: `judge_form` says which rule refuses, then the room decides. Assumes nothing.
use borrow.Author.Tests.{ltb-true, ltb-false}
use mathlib.Core.List.{List}
use mathlib.Core.Path.{◌∙◌, sym, ap}
use Prim.Native.Nat.{ℕ}
use native.Mathlib.Nat.{zero-add}
use Rattle.std.specs.declared.result.Result.TheVariants.{Ok}
use Rattle.answer.proofs.Handing.{handed}
use Rattle.answer.proofs.Lent.{lent-refused, lent-short, lent-done}
use Rattle.forms.specs.Tables.{bits}
use Rattle.forms.specs.Form.{table_in}
use Rattle.forms.specs.Writing.{form_rules}
use Rattle.listing.specs.Internal.{lines_from}
use Rattle.listing.proofs.Room.{judged-form}
use Rattle.listing.proofs.list.Goals as goal

pub is_short-requires : goal.is_short-requires
is_short-requires c =
    let f : List ℕ = c.args.table.now in
    let j = judged-form f (bits (table_in f)) _ (sym c.judge_form.ensures ∙ c.in_ok-judge_form.was) in
    (j.0, j.1, c.requires)

pub returns-then-is_short : goal.returns-then-is_short
returns-then-is_short c =
    let a = c.args in
    let f : List ℕ = a.table.now in
    let short = ltb-true _ _ (sym c.is_short.ensures ∙ c.if-is_short.true) in
    let it = lent-short (form_rules f) (lines_from a.head (table_in f)) a.out.now _ c.judge_form.ensures
    c.in_ok-judge_form.was short in
    record { answer = c.refuse.ensures ∙ it.0; output = it.1 }

pub returns-in_err-judge_form : goal.returns-in_err-judge_form
returns-in_err-judge_form c =
    let a = c.args in
    let f : List ℕ = a.table.now in
    let it = lent-refused (form_rules f) (lines_from a.head (table_in f)) a.out.now _ c.judge_form.ensures c.in_err-judge_form.was in
    record { answer = handed c.from_residual.ensures ∙ it.0; output = it.1 }

pub returns : goal.returns
returns c =
    let a = c.args in
    let f : List ℕ = a.table.now in
    let w = c.put_lines.ensures in
    let room = ltb-false _ _ (sym c.is_short.ensures ∙ c.if-is_short.false) in
    let judged = c.judge_form.ensures in
    let p = lent-done (form_rules f) (lines_from a.head (table_in f)) a.out.now _ judged c.in_ok-judge_form.was room in
    record {
      answer = ap Ok (w.moved ∙ zero-add _) ∙ p.0;
      output = w.stored ∙ p.1;
    }
