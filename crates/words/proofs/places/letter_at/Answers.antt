-- `words::places::letter_at` meets its contract: the letter behind a mark, or where no mark stands. Assumes nothing.
use Rattle.words.proofs.Placing.{letter-there}
use Rattle.words.proofs.places.letter_at.Goals as goal

pub returns : goal.returns
returns c = letter-there _ c.args.spot c.passed.ensures c.byte_at.ensures
