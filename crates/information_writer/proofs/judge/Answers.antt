-- `information_writer::judge` meets its contract: its tests in the order of the rules. Assumes nothing.
use borrow.Author.Tests.{not-true, not-false}
use borrow.Author.Rules.{rules}
use mathlib.Core.Path.{◌∙◌, sym, ap}
use mathlib.Core.List.{List}
use Prim.Native.Nat.{ℕ, ◌+◌}
use lib.ListN.{length}
use Rattle.std.specs.declared.result.Result.TheVariants.{Ok}
use Rattle.information_forms.specs.Form.{information_in}
use Rattle.information_forms.specs.Kind.{record_of}
use Rattle.information_writer.proofs.Fits.{form-counted, size-counted, fits-counted, over-values, over-size, record_long}
use Rattle.information_writer.proofs.Fits.{by-16, by-13, by-15, by_length, by_values, by-none}
use Rattle.information_writer.proofs.judge.Goals as goal

pub returns-then-application-ge32 : goal.returns-then-application-ge32
returns-then-application-ge32 c =
    let a = c.args in c.refuse.ensures ∙ sym (by-16 a.application a.form.now _ c.if-application-ge32.true)

pub returns-then-form-lt-OPENING : goal.returns-then-form-lt-OPENING
returns-then-form-lt-OPENING c =
    let a = c.args in c.refuse-then-form-lt-OPENING.ensures ∙ sym (by-13 a.application a.form.now _ (search rules) c.if-form-lt-OPENING.true)

pub returns-then-byte_at-ne-AI : goal.returns-then-byte_at-ne-AI
returns-then-byte_at-ne-AI c =
    let a = c.args in
    let k = c.byte_at.ensures.0 in
    c.refuse-then-byte_at-ne-AI.ensures ∙ sym (by-15 a.application a.form.now _ (search rules) (search rules) (λ e. c.if-byte_at-ne-AI.true (k ∙ e)))

pub returns-then-form-networks : goal.returns-then-form-networks
returns-then-form-networks c =
    let a = c.args in
    let f : List ℕ = a.form.now in
    let w = c.requires.0 in
    let n = c.byte_at-networks in
    let kind = sym c.byte_at.ensures.0 ∙ c.if-byte_at-ne-AI.false in
    c.refuse-then-form-networks.ensures
    ∙ sym (by_length a.application f _ (search rules) (search rules) kind (λ e. c.if-form-networks.true (e ∙ sym (form-counted f a.whole w n.result n.ensures.0 n.ensures.1))))

pub returns-then-not-whole : goal.returns-then-not-whole
returns-then-not-whole c =
    let a = c.args in
    let f : List ℕ = a.form.now in
    let w = c.requires.0 in
    let n = c.byte_at-networks in
    let kind = sym c.byte_at.ensures.0 ∙ c.if-byte_at-ne-AI.false in
    let long = c.if-form-networks.false ∙ form-counted f a.whole w n.result n.ensures.0 n.ensures.1 in
    c.refuse-then-not-whole.ensures
    ∙ sym (by_values a.application f _ (search rules) (search rules) kind long (over-values f a.whole w n.result n.ensures.0 n.ensures.1 (not-true _ c.if-not-whole.true)))

pub returns-then-size-ge-LIMIT : goal.returns-then-size-ge-LIMIT
returns-then-size-ge-LIMIT c =
    let a = c.args in
    let f : List ℕ = a.form.now in
    let w = c.requires.0 in
    let n = c.byte_at-networks in
    let kind = sym c.byte_at.ensures.0 ∙ c.if-byte_at-ne-AI.false in
    let long = c.if-form-networks.false ∙ form-counted f a.whole w n.result n.ensures.0 n.ensures.1 in
    c.refuse-then-size-ge-LIMIT.ensures
    ∙ sym (by_values a.application f _ (search rules) (search rules) kind long (over-size f a.whole w n.result n.ensures.0 n.ensures.1 c.if-size-ge-LIMIT.true))

pub returns : goal.returns
returns c =
    let a = c.args in
    let f : List ℕ = a.form.now in
    let w = c.requires.0 in
    let n = c.byte_at-networks in
    let kind = sym c.byte_at.ensures.0 ∙ c.if-byte_at-ne-AI.false in
    let long = c.if-form-networks.false ∙ form-counted f a.whole w n.result n.ensures.0 n.ensures.1 in
    let size = ap (λ (x : ℕ). 4 + x) (size-counted f a.whole w n.result n.ensures.0 n.ensures.1) ∙ sym (record_long a.application (information_in f)) in
    ap Ok size
    ∙ sym (by-none a.application f (Ok (length (record_of a.application (information_in f)))) (search rules) (search rules) kind long
    (fits-counted f a.whole w n.result n.ensures.0 n.ensures.1 (not-false _ c.if-not-whole.false) c.if-size-ge-LIMIT.false))
