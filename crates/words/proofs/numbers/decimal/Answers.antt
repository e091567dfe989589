-- The answers that `words::numbers::decimal` wants beside its invariants. Assumes nothing.
use borrow.Author.Tests.{eq-eqb, ne_eqb}
use mathlib.Core.Path.{◌∙◌, sym}
use native.Mathlib.Omega.{arith}
use Rattle.words.specs.Numbers.{decimal_of}
use Rattle.words.proofs.Reading.{digit-taken, digit-bad, too_large, digits_end}
use borrow.Author.Rules.{rules}
use Rattle.words.proofs.numbers.decimal.Goals as goal

pub returns-then-word-eq0 : goal.returns-then-word-eq0
unfolding decimal_of
returns-then-word-eq0 c = simp (eq-eqb _ _ c.if-word-eq0.true)

pub loop-b-init : goal.loop-b-init
unfolding decimal_of
loop-b-init c = (search rules, search rules, simp (ne_eqb _ _ c.if-word-eq0.false))

pub returns-then-d-ge10 : goal.returns-then-d-ge10
returns-then-d-ge10 c = sym (digit-bad _ c.loop-b.b-index c.loop-b.number (omega arith) c.digit-d.ensures (omega arith)) ∙ c.loop-b.invariant.2

pub returns-then-more-gt-MOST : goal.returns-then-more-gt-MOST
returns-then-more-gt-MOST c = sym (too_large _ c.loop-b.b-index c.loop-b.number (omega arith) c.digit-d.ensures (omega arith) c.if-more-gt-MOST.true) ∙ c.loop-b.invariant.2

pub loop-b-preserved : goal.loop-b-preserved
loop-b-preserved c = (search rules, search rules, digit-taken _ c.loop-b.b-index c.loop-b.number (omega arith) c.digit-d.ensures (omega arith) c.if-more-gt-MOST.false ∙ c.loop-b.invariant.2)

pub returns : goal.returns
returns c = sym (digits_end _ c.loop-b.b-index c.loop-b.number (omega arith)) ∙ c.loop-b.invariant.2
