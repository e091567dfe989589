-- The answers that `sheet_moves::none_mended` wants beside its invariants. Assumes nothing.
use mathlib.Core.Path.{◌∙◌, refl}
use native.Mathlib.Omega.{arith}
use Rattle.sheet_moves.proofs.Carried.{ahead, none_ahead, mended-here, mended-on, no_entry}
use Rattle.sheet_moves.proofs.none_mended.Goals as goal

pub loop-e-init : goal.loop-e-init
loop-e-init c = (c.requires, refl)

pub returns-then-e-ne0 : goal.returns-then-e-ne0
returns-then-e-ne0 c =
    let l = c.loop-e in
    let a = ahead c.args.form c.args.sheet.now l.at l.invariant.0 c.in-Ok.ensures in
    mended-here a (λ z. omega arith) ∙ l.invariant.1

pub overflow_add-at : goal.overflow_add-at
overflow_add-at c =
    let l = c.loop-e in
    let a = ahead c.args.form c.args.sheet.now l.at l.invariant.0 c.in-Ok.ensures in
    omega (arith, a.inside, c.requires.within.short)

pub loop-e-smaller : goal.loop-e-smaller
loop-e-smaller c =
    let l = c.loop-e in
    let a = ahead c.args.form c.args.sheet.now l.at l.invariant.0 c.in-Ok.ensures in
    omega (arith, a.some, a.inside)

pub loop-e-preserved : goal.loop-e-preserved
loop-e-preserved c =
    let l = c.loop-e in
    let a = ahead c.args.form c.args.sheet.now l.at l.invariant.0 c.in-Ok.ensures in
    (a.on, mended-on a (omega arith) ∙ l.invariant.1)

pub returns : goal.returns
returns c =
    let l = c.loop-e in
    no_entry _ (none_ahead c.args.form c.args.sheet.now l.at l.invariant.0 c.in_default.ensures) ∙ l.invariant.1
