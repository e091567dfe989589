-- `forms::judge_form` meets its contract: each `return` is the first rule that doesn't hold; the values come last. Assumes
-- nothing.
use borrow.Author.Rules.{rules}
use mathlib.Core.Path.{◌∙◌, sym, ap}
use mathlib.Core.List.{List}
use Prim.Native.Nat.{ℕ}
use Rattle.forms.specs.Tables.{known}
use Rattle.forms.proofs.Judging.{form-22, form-13, form-15, form-13', form-values}
use Rattle.forms.proofs.judge_form.Goals as goal

pub returns-then-not-is_numbered : goal.returns-then-not-is_numbered
returns-then-not-is_numbered c =
    let n = sym c.is_numbered.ensures ∙ c.if-not-is_numbered.true in
    c.refuse.ensures ∙ sym (form-22 c.args.table.now _ n)

pub returns-then-table-lt-OPENING : goal.returns-then-table-lt-OPENING
returns-then-table-lt-OPENING c =
    let n = sym c.is_numbered.ensures ∙ c.if-not-is_numbered.false in
    c.refuse-then-table-lt-OPENING.ensures ∙ sym (form-13 c.args.table.now _ n (search rules))

pub returns-then-not-known : goal.returns-then-not-known
returns-then-not-known c =
    let f : List ℕ = c.args.table.now in
    let n = sym c.is_numbered.ensures ∙ c.if-not-is_numbered.false in
    let k = ap known (sym c.byte_at.ensures.0) ∙ sym c.known.ensures ∙ c.if-not-known.true in
    c.refuse-then-not-known.ensures ∙ sym (form-15 f _ n (search rules) k)

pub returns-then-table-form_size : goal.returns-then-table-form_size
returns-then-table-form_size c =
    let f : List ℕ = c.args.table.now in
    let n = sym c.is_numbered.ensures ∙ c.if-not-is_numbered.false in
    let kind = ap known (sym c.byte_at.ensures.0) in
    let k = kind ∙ sym c.known.ensures ∙ c.if-not-known.false in
    c.refuse-then-table-form_size.ensures ∙ sym (form-13' f _ n (search rules) k (rw c.form_size.ensures.0 at c.if-table-form_size.true))

pub returns : goal.returns
returns c =
    let f : List ℕ = c.args.table.now in
    let n = sym c.is_numbered.ensures ∙ c.if-not-is_numbered.false in
    let kind = ap known (sym c.byte_at.ensures.0) in
    let k = kind ∙ sym c.known.ensures ∙ c.if-not-known.false in
    c.judge_values.ensures ∙ sym (form-values f _ n (search rules) k (c.if-table-form_size.false ∙ c.form_size.ensures.0))
