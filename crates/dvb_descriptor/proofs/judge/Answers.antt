-- `dvb_descriptor::judge` meets its contract: another kind, then the form's rules, then how many subtitles it has. Assumes nothing.
use mathlib.Core.Path.{◌∙◌, refl, sym, ap}
use mathlib.Core.List.{List, [], ◌∷◌}
use Prim.Native.Nat.{ℕ}
use native.Mathlib.Omega.{arith}
use borrow.Author.Tests.{le-leb, lt-leb}
use lib.ListN.{length}
use Rattle.std.specs.declared.result.Result.TheVariants.{Ok}
use Rattle.answer.specs.Rules.{judged}
use Rattle.answer.specs.Values.{refused}
use Rattle.answer.proofs.Handing.{handed}
use Rattle.answer.proofs.Steps.{refused-then, done-then, done_every}
use Rattle.forms.specs.Form.{table_in}
use Rattle.forms.specs.Writing.{form_rules}
use Rattle.dvb_descriptor.specs.Subtitles.{subtitles_of}
use Rattle.dvb_descriptor.proofs.Judging.{few_rule, write-other, write-form, taken}
use Rattle.dvb_descriptor.proofs.judge.Goals as goal

pub returns-then-is_other : goal.returns-then-is_other
returns-then-is_other c =
    let f : List ℕ = c.args.table.now in
    c.refuse.ensures ∙ sym (write-other f _ (sym c.is_other.ensures ∙ c.if-is_other.true))

pub count-n-requires : goal.count-n-requires
count-n-requires c =
    let f : List ℕ = c.args.table.now in
    let j = c.judge_form.ensures in
    let other = sym c.is_other.ensures ∙ c.if-is_other.false in
    let t = taken f (Ok 0) other (done_every (form_rules f) _ _ (sym j ∙ c.in_ok-judge_form.was)) in
    (t.0, t.1)

pub returns-then-n-gt-MOST : goal.returns-then-n-gt-MOST
returns-then-n-gt-MOST c =
    let f : List ℕ = c.args.table.now in
    let j = c.judge_form.ensures in
    let other = sym c.is_other.ensures ∙ c.if-is_other.false in
    let d = done-then (form_rules f) _ _ (judged refused (few_rule f ∷ []) _) (sym j ∙ c.in_ok-judge_form.was) in
    let n = c.count-n.ensures in
    c.refuse-then-n-gt-MOST.ensures
    ∙ sym (write-form f _ other ∙ d ∙ (rw (lt-leb (length (subtitles_of (table_in f))) 51 (omega (arith, n, c.if-n-gt-MOST.true))) refl))

pub returns-in_err-judge_form : goal.returns-in_err-judge_form
returns-in_err-judge_form c =
    let f : List ℕ = c.args.table.now in
    let j = c.judge_form.ensures in
    let other = sym c.is_other.ensures ∙ c.if-is_other.false in
    handed c.from_residual.ensures ∙ sym (write-form f _ other ∙ refused-then (form_rules f) _ _ _ (sym j ∙ c.in_err-judge_form.was))

pub returns : goal.returns
returns c =
    let f : List ℕ = c.args.table.now in
    let j = c.judge_form.ensures in
    let other = sym c.is_other.ensures ∙ c.if-is_other.false in
    let d = done-then (form_rules f) _ _ (judged refused (few_rule f ∷ []) _) (sym j ∙ c.in_ok-judge_form.was) in
    let n = c.count-n.ensures in
    ap Ok n ∙ sym (write-form f _ other ∙ d ∙ (rw (le-leb (length (subtitles_of (table_in f))) 51 (omega (arith, n, c.if-n-gt-MOST.false))) refl))
