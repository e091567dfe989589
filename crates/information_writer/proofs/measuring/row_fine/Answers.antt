-- The answers that `information_writer::measuring::row_fine` wants beside its invariants. Assumes nothing.
use borrow.Author.Rules.{rules}
use mathlib.Core.Path.{◌∙◌, refl, sym, ap, subst}
use Prim.Native.Nat.{ℕ, ◌^◌, ◌≤◌, ◌<◌}
use native.Mathlib.Omega.{arith}
use Rattle.fields.specs.Fields.{fitting}
use Rattle.information_writer.proofs.Along.{power, row-bad, row-good, row-end}
use Rattle.information_writer.proofs.measuring.row_fine.Goals as goal

pub loop-i-init : goal.loop-i-init
loop-i-init c = (search rules, refl)

pub returns-then-w-value_at : goal.returns-then-w-value_at
returns-then-w-value_at c =
    let a = c.args in
    let l = c.loop-i in
    let w = c.width_at-w in
    let v = c.value_at in
    let over : 2 ^ w.result ≤ v.result = subst (λ (x : ℕ). x ≤ v.result) (power w.result w.ensures.1) c.if-w-value_at.true in
    sym (row-bad a.widths.now a.form.now l.i l.p w.result v.result (search rules) w.ensures.0 v.ensures over) ∙ l.invariant.1

pub loop-i-preserved : goal.loop-i-preserved
loop-i-preserved c =
    let a = c.args in
    let l = c.loop-i in
    let w = c.width_at-w in
    let v = c.value_at in
    let under : v.result < 2 ^ w.result = subst (λ (x : ℕ). v.result < x) (power w.result w.ensures.1) c.if-w-value_at.false in (
      omega (arith, l.invariant.0, w.ensures.1),
      row-good a.widths.now a.form.now l.i l.p w.result v.result (search rules) w.ensures.0 v.ensures under _ l.invariant.1,
    )

pub returns : goal.returns
unfolding fitting
returns c =
    let a = c.args in
    let l = c.loop-i in
    sym (ap fitting (row-end a.widths.now a.form.now l.i l.p (search rules))) ∙ l.invariant.1
