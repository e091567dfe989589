-- The answers that `information_writer::laying::lay_row` wants beside its invariants. Assumes nothing.
use borrow.Author.Rules.{rules}
use mathlib.Core.Path.{◌≡◌, ◌∙◌, refl, sym, ap}
use mathlib.Core.List.{List, [], ◌∷◌}
use Prim.Native.Nat.{ℕ, ◌+◌, min}
use native.Mathlib.Omega.{arith}
use lib.ListN.{drop}
use Rattle.fields.specs.Fields.{Field}
use Rattle.fields.specs.Pens.{inked, moved}
use Rattle.fields.proofs.Inking.{on_fine, on-moved, on-inked, none_left, none-inked}
use Rattle.information_forms.specs.Rows.{bytes_of}
use Rattle.information_writer.specs.Internal.{row_at}
use Rattle.information_writer.proofs.Along.{row-split, row-end}
use Rattle.information_writer.proofs.laying.lay_row.Goals as goal

pub loop-i-init : goal.loop-i-init
loop-i-init c = (c.requires.2, search rules, refl, refl)

pub loop-i-preserved : goal.loop-i-preserved
loop-i-preserved c =
    let f : List ℕ = c.args.form.now in
    let ws : List ℕ = c.args.widths.now in
    let l = c.loop-i in
    let w = c.width_at-w in
    let v = c.value_at in
    let d = c.lay-p in
    let wide : min w.result 32 ≡ w.result = omega (arith, w.ensures.1) in
    let fs : List Field = (w.result, v.result) ∷ [] in
    let rest : List Field = row_at (drop (l.i + 1) ws) (l.q + bytes_of w.result) f in
    let all : List Field = row_at (drop l.i ws) l.q f in
    let e = row-split ws f l.i l.q w.result v.result (search rules) w.ensures.0 v.ensures in
    let m = d.ensures.0 ∙ ap (λ (x : ℕ). moved l.p ((x, v.result) ∷ [])) wide in
    let k = d.ensures.1 ∙ ap (λ (x : ℕ). inked l.p ((x, v.result) ∷ []) l.out) wide in (
      on_fine l.p fs rest all e m,
      omega (arith, l.invariant.1, w.ensures.1),
      on-moved l.p fs rest all e m ∙ l.invariant.2,
      on-inked l.p fs rest all e m l.out (omega (arith, l.auto.out, c.well_formed)) k ∙ l.invariant.3,
    )

pub returns : goal.returns
returns c =
    let l = c.loop-i in
    let e = row-end c.args.widths.now c.args.form.now l.i l.q (search rules) in (
      sym (none_left l.p l.invariant.0) ∙ sym (ap (moved l.p) e) ∙ l.invariant.2,
      sym (none-inked l.p l.invariant.0 l.out) ∙ sym (ap (λ (x : List Field). inked l.p x l.out) e) ∙ l.invariant.3,
    )
