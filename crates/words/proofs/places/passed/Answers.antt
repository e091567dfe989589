-- `words::places::passed` meets its contract: its tests in order. Assumes nothing.
use Rattle.words.proofs.Placing.{passed-end, passed-mark, passed-letter}
use Rattle.words.proofs.places.passed.Goals as goal

pub returns-then-places-at : goal.returns-then-places-at
returns-then-places-at c = passed-end _ _ _ c.if-places-at.true

pub returns-then-is_mark : goal.returns-then-is_mark
returns-then-is_mark c = passed-mark _ _ c.args.other c.is_mark.ensures c.if-is_mark.true

pub returns : goal.returns
returns c = passed-letter _ _ _ c.is_mark.ensures c.if-is_mark.false
