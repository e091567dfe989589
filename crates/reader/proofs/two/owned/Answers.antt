-- `reader::two::owned` meets its contract. Assumes nothing.

use Rattle.reader.proofs.two.owned.Goals as goal

pub returns-in-Open : goal.returns-in-Open
returns-in-Open c = rw c.in-Open.is
