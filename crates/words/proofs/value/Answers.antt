-- `words::value` meets its contract: its tests in order. Assumes nothing.
use borrow.Author.Tests.{lt-ltb, le-ltb, eq-eqb, ne_eqb}
use Rattle.words.specs.Words.{value_at}
use Rattle.words.proofs.value.Goals as goal

pub returns-then-k-ge-OPTIONS : goal.returns-then-k-ge-OPTIONS
unfolding value_at
returns-then-k-ge-OPTIONS c = simp (le-ltb _ _ c.if-k-ge-OPTIONS.true)

pub returns-then-value : goal.returns-then-value
unfolding value_at
returns-then-value c = simp (lt-ltb _ _ c.if-k-ge-OPTIONS.false, ne_eqb _ _ c.if-value.true)

pub returns : goal.returns
unfolding value_at
returns c = simp (lt-ltb _ _ c.if-k-ge-OPTIONS.false, eq-eqb _ _ c.if-value.false) c.entry.ensures
