-- `sight::pages` meets its contract: its own page in each stream stands in front. Assumes nothing.

use Rattle.sight.proofs.pages.Goals as goal

pub returns : goal.returns
returns c =
    rw (c.own-2.ensures, c.second.ensures, c.own.ensures, c.first.ensures)
