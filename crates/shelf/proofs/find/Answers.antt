-- The answers that `shelf::find` wants beside its invariants. Assumes nothing.
use borrow.Author.Rules.{rules}
use mathlib.Core.Path.{◌∙◌, sym}
use native.Mathlib.Omega.{arith}
use Rattle.shelf.specs.Shelf.{place_of}
use Rattle.shelf.proofs.Ways.{stood, found_here, found_none, found-on, way-none}
use Rattle.shelf.proofs.find.Goals as goal

pub loop-number-init : goal.loop-number-init
unfolding place_of
loop-number-init c =
    let e = c.three-p.ensures.0 in (search rules, rw e)

pub returns-then-number_at-wanted : goal.returns-then-number_at-wanted
returns-then-number_at-wanted c =
    let l = c.loop-number in
    let a = c.args in
    let t = c.stands in
    let e = sym t.ensures ∙ c.loop-number-test.true in
    let h = stood l.p a.shelf.now e in
    record {
      place = found_here a.number l.p a.shelf.now e (sym c.number_at.ensures ∙ c.if-number_at-wanted.true) ∙ l.invariant.1;
      within = omega arith;
    }

pub overflow_sub-p : goal.overflow_sub-p
overflow_sub-p c =
    let l = c.loop-number in
    let a = c.args in
    let h = stood l.p a.shelf.now (sym c.stands.ensures ∙ c.loop-number-test.true) in
    h.0

pub returns-then-p-before : goal.returns-then-p-before
returns-then-p-before c =
    let l = c.loop-number in
    let a = c.args in
    let e = sym c.stands.ensures ∙ c.loop-number-test.true in
    let n = c.number_at.ensures in
    let b = c.three-before.ensures.0 in
    record {
      place = found_none a.number l.p a.shelf.now e (λ f. c.if-number_at-wanted.false (n ∙ f)) (omega (arith, b, c.if-p-before.true)) ∙ l.invariant.1;
      within = omega arith;
    }

pub loop-number-preserved : goal.loop-number-preserved
loop-number-preserved c =
    let l = c.loop-number in
    let a = c.args in
    let e = sym c.stands.ensures ∙ c.loop-number-test.true in
    let n = c.number_at.ensures in
    let b = c.three-before.ensures.0 in
    (search rules, rw b (found-on a.number l.p a.shelf.now e (λ f. c.if-number_at-wanted.false (n ∙ f)) (omega (arith, b, c.if-p-before.false)) ∙ l.invariant.1))

pub returns : goal.returns
returns c =
    let l = c.loop-number in
    let a = c.args in
    record {
      place = sym (way-none l.p a.number l.p a.shelf.now (sym c.stands.ensures ∙ c.loop-number-test.false)) ∙ l.invariant.1;
      within = omega arith;
    }
