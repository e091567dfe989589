-- `reader::two::setting_of` meets its contract. Assumes nothing.

use Rattle.reader.proofs.two.setting_of.Goals as goal

pub returns-in-First : goal.returns-in-First
returns-in-First c = rw (c.first.ensures, c.in-First.is)

pub returns-in-Second : goal.returns-in-Second
returns-in-Second c = rw (c.second.ensures, c.in-Second.is)
