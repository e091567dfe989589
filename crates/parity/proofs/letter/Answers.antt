-- `parity::letter` meets its contract: the top bit is set where the seven bits have an even number of ones. Assumes nothing.
use borrow.Author.Rules.{rules}
use mathlib.Core.Path.{◌∙◌, sym}
use native.Mathlib.Nat.{add-zero}
use Rattle.parity.proofs.Letters.{letter_by}
use Rattle.parity.proofs.letter.Goals as goal

pub returns-then-odd : goal.returns-then-odd
returns-then-odd c = sym (letter_by _ (search rules) ∙ (rw (← c.odd.ensures, c.if-odd.true) (add-zero _)))

pub returns-else-odd : goal.returns-else-odd
returns-else-odd c = sym (letter_by _ (search rules) ∙ (rw (← c.odd.ensures, c.if-odd.false)))
