-- `words::numbers::number_of` meets its contract: its tests in order. Assumes nothing.
use native.Mathlib.Omega.{arith}
use Rattle.words.proofs.Reading.{short-number, other-number, leading_zero}
use Rattle.words.proofs.numbers.number_of.Goals as goal

pub returns-then-word-le1 : goal.returns-then-word-le1
returns-then-word-le1 c = short-number _ c.decimal.ensures c.if-word-le1.true

pub returns-then-word-eq48 : goal.returns-then-word-eq48
returns-then-word-eq48 c = leading_zero _ (omega arith) c.if-word-eq48.true

pub returns : goal.returns
returns c = other-number _ c.decimal-2.ensures (omega arith) c.if-word-eq48.false
