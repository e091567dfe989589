-- `words::places::is_kind` meets its contract: its test. Assumes nothing.
use Rattle.words.specs.Places.{is_kind}
use Rattle.words.proofs.Hearing.{not_is}
use Rattle.words.proofs.places.is_kind.Goals as goal

pub returns : goal.returns
unfolding is_kind
returns c = rw c.kind_of.ensures (not_is _)
