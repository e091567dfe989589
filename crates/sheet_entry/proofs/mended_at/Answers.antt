-- `sheet_entry::mended_at` meets its contract: by the form. Assumes nothing.

use Rattle.sheet_entry.proofs.mended_at.Goals as goal

pub returns-in-Old : goal.returns-in-Old
returns-in-Old c = rw c.in-Old.is

pub returns-in-New : goal.returns-in-New
returns-in-New c = rw c.in-New.is c.number_at.ensures
