-- `words::places::is_mark` meets its contract: its tests in order. Assumes nothing.
use borrow.Author.Tests.{eq-eqb, ne_eqb}
use Rattle.words.specs.Places.{is_mark}
use Rattle.words.proofs.places.is_mark.Goals as goal

pub returns-then-b-eq-ONCE_OR_MORE : goal.returns-then-b-eq-ONCE_OR_MORE
unfolding is_mark
returns-then-b-eq-ONCE_OR_MORE c = simp (eq-eqb _ _ c.if-b-eq-ONCE_OR_MORE.true)

pub returns-else-b-eq-ONCE_OR_MORE : goal.returns-else-b-eq-ONCE_OR_MORE
unfolding is_mark
returns-else-b-eq-ONCE_OR_MORE c = simp (ne_eqb _ _ c.if-b-eq-ONCE_OR_MORE.false)
