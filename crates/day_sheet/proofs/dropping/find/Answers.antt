-- The answers that `day_sheet::dropping::find` wants beside its invariants. Assumes nothing.
use mathlib.Core.Path.{◌∙◌}
use native.Mathlib.Omega.{arith}
use Rattle.day_sheet.proofs.Around.{spot-none, spot-here, spot_on}
use Rattle.day_sheet.proofs.dropping.find.Goals as goal

pub returns : goal.returns
returns c =
    let l = c.loop-e in
    spot-none c.args.form c.args.sheet.now l.at c.args.key l.invariant.0 c.in_default.ensures ∙ l.invariant.1

pub returns-then-e-key : goal.returns-then-e-key
returns-then-e-key c =
    let l = c.loop-e in
    spot-here c.args.form c.args.sheet.now l.at c.args.key l.invariant.0 c.in-Ok.ensures (omega arith) ∙ l.invariant.1

pub overflow_add-at : goal.overflow_add-at
overflow_add-at c =
    let l = c.loop-e in
    let o = spot_on c.args.form c.args.sheet.now l.at c.args.key l.invariant.0 c.in-Ok.ensures (λ z. omega arith) in
    omega (arith, o.2, l.invariant.0.within.short)

pub loop-e-smaller : goal.loop-e-smaller
loop-e-smaller c =
    let l = c.loop-e in
    let o = spot_on c.args.form c.args.sheet.now l.at c.args.key l.invariant.0 c.in-Ok.ensures (λ z. omega arith) in
    omega (arith, o.1, o.2)

pub loop-e-preserved : goal.loop-e-preserved
loop-e-preserved c =
    let l = c.loop-e in
    let o = spot_on c.args.form c.args.sheet.now l.at c.args.key l.invariant.0 c.in-Ok.ensures (λ z. omega arith) in
    (o.0, o.3 ∙ l.invariant.1)
