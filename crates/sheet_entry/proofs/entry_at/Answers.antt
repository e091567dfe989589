-- `sheet_entry::entry_at` meets its contract: a law for each way. Assumes nothing.
use borrow.Author.Rules.{rules}
use mathlib.Core.Path.{◌∙◌}
use Rattle.sheet_entry.proofs.Finding.{entry-end, entry-headless, entry-headed}
use Rattle.sheet_entry.proofs.entry_at.Goals as goal

pub returns-then-sheet-at : goal.returns-then-sheet-at
returns-then-sheet-at c = entry-end c.args.form c.args.sheet.now c.args.at c.args.least c.if-sheet-at.true

pub returns-in-Err : goal.returns-in-Err
returns-in-Err c = entry-headless c.args.form c.args.sheet.now c.args.at c.args.least (search rules) c.in-Err.ensures

pub with_table-requires : goal.with_table-requires
with_table-requires c = (search rules, c.in-Ok.ensures)

pub returns-in-Ok : goal.returns-in-Ok
returns-in-Ok c = c.with_table.ensures ∙ entry-headed c.args.form c.args.sheet.now c.args.at c.args.least (search rules) c.in-Ok.ensures
