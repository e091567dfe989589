-- `listing_reader::table_at` meets its contract: past the end there are no lines. Assumes nothing.
use mathlib.Core.Path.{sym}
use Rattle.listing_reader.proofs.Walks.{table_none}
use Rattle.listing_reader.proofs.table_at.Goals as goal

pub returns-then-sheet-at : goal.returns-then-sheet-at
returns-then-sheet-at c = let a = c.args in sym (table_none a.sheet.now a.at a.kind c.if-sheet-at.true)

pub returns : goal.returns
returns c = c.table_from.ensures.0
