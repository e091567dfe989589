-- `words::options::form_of` meets its contract: its test. Assumes nothing.
use borrow.Author.Tests.{lt-ltb, le-ltb}
use Rattle.words.specs.Options.{form_of}
use Rattle.words.proofs.options.form_of.Goals as goal

pub returns-then-k-ge-OPTIONS : goal.returns-then-k-ge-OPTIONS
unfolding form_of
returns-then-k-ge-OPTIONS c = simp (le-ltb _ _ c.if-k-ge-OPTIONS.true)

pub returns : goal.returns
unfolding form_of
returns c = simp (lt-ltb _ _ c.if-k-ge-OPTIONS.false) c.entry.ensures
