-- The answers that `survey::find` wants beside its invariants. Assumes nothing.
use mathlib.Core.Path.{◌∙◌, sym, ap}
use native.Mathlib.Omega.{arith}
use Rattle.laws.proofs.Lists.{part-rest}
use Rattle.survey.specs.Fitting.{fits}
use Rattle.survey.proofs.Fitting.{first-here, first-later, first-none}
use Rattle.survey.proofs.find.Goals as goal

pub returns-then-stands : goal.returns-then-stands
returns-then-stands c =
    let a = c.args in
    let e = sym (ap (fits a.setting) (part-rest c.loop-at.at a.bytes.now)) ∙ sym c.stands.ensures ∙ c.if-stands.true in
    sym (first-here a.setting a.bytes.now c.loop-at.at (omega arith) e) ∙ c.loop-at.invariant

pub loop-at-preserved : goal.loop-at-preserved
loop-at-preserved c =
    let a = c.args in
    let e = sym (ap (fits a.setting) (part-rest c.loop-at.at a.bytes.now)) ∙ sym c.stands.ensures ∙ c.if-stands.false in
    sym (first-later a.setting a.bytes.now c.loop-at.at (omega arith) e) ∙ c.loop-at.invariant

pub returns : goal.returns
returns c =
    let a = c.args in
    sym (first-none a.setting a.bytes.now c.loop-at.at (omega arith)) ∙ c.loop-at.invariant
