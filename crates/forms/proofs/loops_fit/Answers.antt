-- The answers that `forms::loops_fit` wants beside its invariants. Assumes nothing.
use borrow.Author.Rules.{rules}
use mathlib.Core.Path.{◌∙◌, refl, sym}
use mathlib.Core.List.{List}
use Prim.Native.Nat.{ℕ, ◌+◌, ◌-◌}
use native.Mathlib.Nat.{sub-zero}
use native.Mathlib.Omega.{arith}
use lib.ListN.{drop}
use Rattle.laws.proofs.Countdown.{at_none}
use Rattle.fields.specs.Fields.{fitting}
use Rattle.forms.specs.Tables.{per, loops}
use Rattle.forms.specs.Form.{descriptors_in, table_in}
use Rattle.forms.proofs.Measures.{words_counted}
use Rattle.forms.proofs.Forms.{fits_in, fits_out}
use Rattle.forms.proofs.loops_fit.Goals as goal

pub loop-init : goal.loop-init
unfolding table_in
loop-init c =
    let f : List ℕ = c.args.table.now in
    let e = c.byte_at-kind.ensures.0 in
    (omega (arith, c.byte_at-end.ensures.1), rw (e, c.byte_at-end.ensures.0, sub-zero) refl)

pub returns-then-byte_at-gt63 : goal.returns-then-byte_at-gt63
returns-then-byte_at-gt63 c =
    let l = c.loop in
    sym (fits_out c.byte_at-kind.result _ (c.byte_at-end.result - (l.counter + 1)) l.at _ _ c.args.table.now (omega arith) c.byte_at.ensures.0
    c.byte_at-entries.ensures.0 c.then-byte_at-gt63.either)
    ∙ l.invariant.1

pub loop-preserved : goal.loop-preserved
loop-preserved c =
    let l = c.loop in
    let n = c.byte_at-entries in (
      omega (arith, c.words_of.ensures.1),
      sym (fits_in c.byte_at-kind.result _ _ l.at c.byte_at.result n.result c.words_of.result c.args.table.now (omega arith) c.byte_at.ensures.0 n.ensures.0
          (words_counted _ _ _ _ c.words_of.ensures.0 n.ensures.1 refl) c.if-byte_at-gt63.false c.if-entries-gt15.false)
          ∙ l.invariant.1,
    )

pub returns : goal.returns
unfolding descriptors_in loops fitting
returns c =
    let l = c.loop in
    let f : List ℕ = c.args.table.now in
    let kind = c.byte_at-kind.result in
    sym (at_none (λ (n : ℕ). fitting (loops kind (descriptors_in (per kind) n (drop l.at f)))) (c.byte_at-end.result - l.counter) (search rules)) ∙ l.invariant.1
