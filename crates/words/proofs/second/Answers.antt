-- `words::second` meets its contract: its test. Assumes nothing.
use borrow.Author.Tests.{lt-ltb, le-ltb}
use Rattle.words.specs.Words.{second_at}
use Rattle.words.proofs.second.Goals as goal

pub returns-then-k-ge-OPTIONS : goal.returns-then-k-ge-OPTIONS
unfolding second_at
returns-then-k-ge-OPTIONS c = simp (le-ltb _ _ c.if-k-ge-OPTIONS.true)

pub returns : goal.returns
unfolding second_at
returns c = simp (lt-ltb _ _ c.if-k-ge-OPTIONS.false)
