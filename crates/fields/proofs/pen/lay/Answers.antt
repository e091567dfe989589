-- The answers that `fields::pen::lay` wants beside its invariants. Assumes nothing.
use borrow.Author.Rules.{rules}
use mathlib.Core.Path.{◌∙◌, refl}
use Prim.Native.Nat.{◌≤◌}
use native.Mathlib.Omega.{arith}
use Rattle.fields.proofs.Inking.{power_pos, added-lt, next-bits, next-stored, lay_done}
use Rattle.fields.proofs.pen.lay.Goals as goal

pub overflow_add-held : goal.overflow_add-held
overflow_add-held c = omega (arith, c.min-wide.ensures)

pub overflow_shl-bits-2 : goal.overflow_shl-bits-2
overflow_shl-bits-2 c = omega (arith, c.min-wide.ensures)

pub nonzero_rem-bits : goal.nonzero_rem-bits
nonzero_rem-bits c = power_pos _ (omega arith)

pub nonzero_rem-bits-2 : goal.nonzero_rem-bits-2
nonzero_rem-bits-2 c = power_pos _ (omega (arith, c.min-wide.ensures))

pub overflow_add-bits : goal.overflow_add-bits
overflow_add-bits c =
    let a = c.args in
    omega (arith, added-lt a.pen c.min-wide.result a.v (omega (arith, c.min-wide.ensures)))

pub loop-held-init : goal.loop-held-init
loop-held-init c = (refl, search rules, refl, refl, refl, refl)

pub loop-held-preserved : goal.loop-held-preserved
loop-held-preserved c =
    let p = c.put in
    let l = c.loop-held in
    let h : 4 ≤ l.held = search rules in
    let i = c.image in
    let long = p.auto.out ∙ l.invariant.0 in (
      long,
      omega (arith, c.further-at.ensures),
      omega (arith, c.further-at.ensures, l.invariant.2),
      omega (arith, l.invariant.3),
      next-bits l.at l.held l.bits h ∙ l.invariant.4,
      next-stored l.at l.held l.bits h i.result c.further-at.result l.out p.new.out _ (omega (arith, long, c.well_formed.1.1.1.0.0)) i.ensures c.further-at.ensures p.ensures l.invariant.5,
    )

pub shape_of-out : goal.shape_of-out
shape_of-out c = c.loop-held.invariant.0

pub returns : goal.returns
returns c =
    let l = c.loop-held in
    let wide = c.min-wide in
    rw (← wide.ensures)
    (lay_done c.args.pen wide.result c.args.v l.at l.held l.bits l.out c.args.out.now (omega (arith, wide.ensures)) (search rules) l.invariant.1
    l.invariant.2 l.invariant.3 l.invariant.4 l.invariant.5)
