-- `captures::start` meets its contract: its parts are fresh. Assumes nothing.

use Rattle.captures.proofs.start.Goals as goal

pub returns : goal.returns
returns c = rw (c.none.ensures, c.fresh-2.ensures, c.fresh.ensures)
