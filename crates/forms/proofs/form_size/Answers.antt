-- The answers that `forms::form_size` wants beside its invariants. Assumes nothing.
use borrow.Author.Rules.{rules}
use mathlib.Core.Path.{◌∙◌, refl, sym}
use mathlib.Core.List.{List}
use Prim.Native.Nat.{ℕ, ◌+◌, ◌-◌}
use native.Mathlib.Nat.{add-zero, sub-zero}
use native.Mathlib.Omega.{arith}
use lib.ListN.{length, drop}
use Rattle.laws.proofs.Countdown.{at_none}
use Rattle.forms.specs.Tables.{per}
use Rattle.forms.specs.Form.{listed, descriptors_in, table_in}
use Rattle.forms.proofs.Measures.{words_counted, length-form}
use Rattle.forms.proofs.Forms.{form-on}
use Rattle.forms.proofs.form_size.Goals as goal

pub loop-init : goal.loop-init
unfolding table_in
loop-init c =
    let f : List ℕ = c.args.table.now in
    let e = c.byte_at-kind.ensures.0 in
    (omega (arith, c.byte_at-end.ensures.1), rw (e, c.byte_at-end.ensures.0, sub-zero) (sym (length-form (table_in f))))

pub loop-preserved : goal.loop-preserved
loop-preserved c =
    let l = c.loop in
    let f : List ℕ = c.args.table.now in
    let b = c.byte_at in (
      omega (arith, c.words_of.ensures.1, b.ensures.1),
      form-on c.byte_at-kind.result _ _ l.at b.result c.words_of.result _ f (omega arith)
          b.ensures.0 (words_counted _ _ _ _ c.words_of.ensures.0 b.ensures.1 refl) l.invariant.1,
    )

pub returns : goal.returns
unfolding descriptors_in listed
returns c =
    let l = c.loop in
    let f : List ℕ = c.args.table.now in
    let kind = c.byte_at-kind.result in
    let end = at_none (λ (n : ℕ). l.at + length (listed kind (descriptors_in (per kind) n (drop l.at f)))) (c.byte_at-end.result - l.counter) (search rules) in
    (sym (add-zero l.at) ∙ sym end ∙ l.invariant.1, search rules)
