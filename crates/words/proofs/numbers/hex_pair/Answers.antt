-- `words::numbers::hex_pair` meets its contract: its tests in order. Assumes nothing.
use native.Mathlib.Omega.{arith}
use borrow.Author.Tests.{ne_eqb}
use Rattle.words.specs.Numbers.{hex_pair_of}
use Rattle.words.proofs.Reading.{first-bad, second-bad, both-good}
use Rattle.words.proofs.numbers.hex_pair.Goals as goal

pub returns-then-word-ne2 : goal.returns-then-word-ne2
unfolding hex_pair_of
returns-then-word-ne2 c = simp (ne_eqb _ _ c.if-word-ne2.true)

pub returns-then-high-ge-NO_DIGIT : goal.returns-then-high-ge-NO_DIGIT
returns-then-high-ge-NO_DIGIT c = first-bad _ (omega arith) c.digit-high.ensures c.digit-low.ensures c.if-high-ge-NO_DIGIT.true

pub returns-then-low-ge-NO_DIGIT : goal.returns-then-low-ge-NO_DIGIT
returns-then-low-ge-NO_DIGIT c = second-bad _ (omega arith) c.digit-high.ensures c.digit-low.ensures c.if-high-ge-NO_DIGIT.false c.if-low-ge-NO_DIGIT.true

pub returns : goal.returns
returns c = both-good _ (omega arith) c.digit-high.ensures c.digit-low.ensures c.if-high-ge-NO_DIGIT.false c.if-low-ge-NO_DIGIT.false
