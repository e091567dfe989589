-- The answers that `information::spelling::put_row` wants beside its invariants. Assumes nothing.
use borrow.Author.Rules.{rules}
use mathlib.Core.Path.{◌≡◌, ◌∙◌, refl, ap}
use Prim.Native.Nat.{ℕ, ◌/◌, ◌^◌, min}
use native.Mathlib.Omega.{arith}
use lib.Seq.{sets}
use Rattle.fields.specs.Fields.{field, parts}
use Rattle.fields.specs.Compound.{compound}
use Rattle.information_forms.specs.Rows.{bytes_of}
use Rattle.information.proofs.Walking.{row_on, row-end}
use Rattle.information.proofs.spelling.put_row.Goals as goal

pub loop-i-init : goal.loop-i-init
loop-i-init c = (search rules, search rules, refl)

pub loop-i-preserved : goal.loop-i-preserved
loop-i-preserved c =
    let a = c.args in
    let l = c.loop-i in
    let w = c.width_at-w in
    let f = c.field_of in
    let p = c.put_value in
    let wide : min w.result 24 ≡ w.result = omega (arith, w.ensures.1) in
    let value : f.result ≡ field l.p w.result (compound a.control.now) =
    f.ensures.0 ∙ ap (λ (x : ℕ). field l.p x (compound a.control.now)) wide in (
      omega (arith, l.invariant.0, w.ensures.1),
      omega (arith, l.invariant.1, w.ensures.1),
      row_on a.widths.now (compound a.control.now) l.i l.p l.q w.result l.out _ _ (search rules) w.ensures.0
          (p.ensures ∙ ap (λ (x : ℕ). sets l.out l.q (parts 8 (bytes_of w.result) x)) value) l.invariant.2,
    )

pub returns : goal.returns
returns c =
    let a = c.args in
    let l = c.loop-i in
    row-end a.widths.now (compound a.control.now / 2 ^ l.p) l.i l.q l.out _ (search rules) l.invariant.2
