-- The answers that `texts::holds` wants beside its invariants. Assumes nothing.
use Rattle.std.proofs.Common.{◌<◌, ◌∙◌, sym, arith, length}
use Rattle.std.proofs.lemmas.Bool.Decides.{nat_tests}
use Rattle.texts.proofs.Walking.{stands_on, stands-not, stands_none}
use Rattle.texts.proofs.holds.Goals as goal

pub returns-then-is_empty : goal.returns-then-is_empty
returns-then-is_empty c = stands_none c.args.part.now c.args.text.now (grind (arith, nat_tests))

pub returns-then-eq : goal.returns-then-eq
returns-then-eq c =
    let l = c.loop-window in
    let s = c.in-Some.ensures.steps in
    let some : 0 < length c.args.part.now = grind (arith, nat_tests) in
    let on = stands_on c.args.part.now l.window-iterator.rest.now some l.invariant.0 s.1.0 s.1.1 s.1.2 c.eq.ensures in
    sym (rw c.if-eq.true at on) ∙ l.invariant.1

pub loop-window-preserved : goal.loop-window-preserved
loop-window-preserved c =
    let l = c.loop-window in
    let s = c.in-Some.ensures.steps in
    let some : 0 < length c.args.part.now = grind (arith, nat_tests) in
    let on = stands_on c.args.part.now l.window-iterator.rest.now some l.invariant.0 s.1.0 s.1.1 s.1.2 c.eq.ensures in
    (s.0 ∙ l.invariant.0, sym (rw c.if-eq.false at on) ∙ l.invariant.1)

pub returns : goal.returns
returns c =
    let l = c.loop-window in
    let s = c.in-None.ensures.steps in
    sym (stands-not c.args.part.now l.window-iterator.rest.now (omega (arith, s.1.0, l.invariant.0))) ∙ l.invariant.1
