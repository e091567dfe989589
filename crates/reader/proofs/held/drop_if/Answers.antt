-- `reader::held::drop_if` meets its contract. Assumes nothing.
use Rattle.walk.proofs.Keeping.{holds_idle}
use Rattle.reader.proofs.held.drop_if.Goals as goal

pub returns-then-t : goal.returns-then-t
returns-then-t c = rw c.if-t.true (holds_idle c.let_go.ensures)

pub returns : goal.returns
returns c = rw c.if-t.false c.requires
