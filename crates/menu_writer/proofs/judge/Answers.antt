-- `menu_writer::judge` meets its contract: rule by rule. Assumes nothing.
use borrow.Author.Rules.{rules}
use mathlib.Core.Path.{◌∙◌, sym, ap}
use mathlib.Core.List.{List}
use Prim.Native.Nat.{ℕ}
use lib.ListN.{length}
use Rattle.std.specs.declared.result.Result.TheVariants.{Ok}
use Rattle.menu_forms.specs.Form.{menu_in}
use Rattle.menu_forms.specs.Block.{record_of}
use Rattle.menu_writer.proofs.Records.{by-16, by-13, by-15, by-13', by-15', by-none, fits-is, long-is}
use Rattle.menu_writer.proofs.judge.Goals as goal

pub returns-then-application-ge32 : goal.returns-then-application-ge32
returns-then-application-ge32 c =
    let a = c.args in c.refuse.ensures ∙ sym (by-16 a.application a.form.now _ c.if-application-ge32.true)

pub returns-then-form-lt-OPENING : goal.returns-then-form-lt-OPENING
returns-then-form-lt-OPENING c =
    let a = c.args in c.refuse-then-form-lt-OPENING.ensures ∙ sym (by-13 a.application a.form.now _ (search rules) c.if-form-lt-OPENING.true)

pub returns-then-byte_at-ne-NI : goal.returns-then-byte_at-ne-NI
returns-then-byte_at-ne-NI c =
    let a = c.args in
    let b = c.byte_at.ensures.0 in
    c.refuse-then-byte_at-ne-NI.ensures ∙ sym (by-15 a.application a.form.now _ (search rules) (search rules) (λ e. c.if-byte_at-ne-NI.true (b ∙ e)))

pub returns-then-form-whole : goal.returns-then-form-whole
returns-then-form-whole c =
    let a = c.args in
    let b = c.byte_at.ensures.0 in
    let w = c.requires.0 in
    c.refuse-then-form-whole.ensures
    ∙ sym (by-13' a.application a.form.now _ (search rules) (search rules) (sym b ∙ c.if-byte_at-ne-NI.false) (λ e. c.if-form-whole.true (e ∙ sym w.ends)))

pub returns-then-not-whole : goal.returns-then-not-whole
returns-then-not-whole c =
    let a = c.args in
    let f : List ℕ = a.form.now in
    let b = c.byte_at.ensures.0 in
    let w = c.requires.0 in
    c.refuse-then-not-whole.ensures
    ∙ sym
    (by-15' a.application f _ (search rules) (search rules) (sym b ∙ c.if-byte_at-ne-NI.false) (c.if-form-whole.false ∙ w.ends)
    (sym (fits-is a.whole f w) ∙ search rules))

pub returns : goal.returns
returns c =
    let a = c.args in
    let f : List ℕ = a.form.now in
    let b = c.byte_at.ensures.0 in
    let w = c.requires.0 in
    ap Ok (long-is a.whole f w a.application)
    ∙ sym
    (by-none a.application f (Ok (length (record_of a.application (menu_in f)))) (search rules) (search rules) (sym b ∙ c.if-byte_at-ne-NI.false) (c.if-form-whole.false ∙ w.ends)
    (sym (fits-is a.whole f w) ∙ search rules))
