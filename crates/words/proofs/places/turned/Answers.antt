-- `words::places::turned` meets its contract: its test. Assumes nothing.
use borrow.Author.Tests.{eq-eqb, ne_eqb}
use Rattle.words.specs.Places.{turned}
use Rattle.words.proofs.places.turned.Goals as goal

pub returns-then-group-eq0 : goal.returns-then-group-eq0
unfolding turned
returns-then-group-eq0 c = simp (eq-eqb _ _ c.if-group-eq0.true)

pub returns : goal.returns
unfolding turned
returns c = simp (ne_eqb _ _ c.if-group-eq0.false)
