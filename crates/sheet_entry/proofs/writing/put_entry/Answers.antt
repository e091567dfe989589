-- `sheet_entry::writing::put_entry` meets its contract: head, table and empty line, one after the other. Assumes nothing.
use borrow.Author.Rules.{rules}
use native.Mathlib.Omega.{arith}
use Rattle.listing.specs.Lines.{descriptor_lines_of}
use Rattle.text_lines.proofs.Putting.{then, put-at}
use Rattle.sheet_entry.specs.Entries.{entry_text}
use Rattle.sheet_entry.specs.Writing.{stamped}
use Rattle.sheet_entry.proofs.writing.put_entry.Goals as goal

pub returns : goal.returns
unfolding entry_text stamped descriptor_lines_of
returns c =
    let h = c.put_head-at.ensures in
    let t = c.put_table-end.ensures in
    let e = c.put.ensures in
    (then h.0 (then t.0 (put-at (search rules) e.0)), omega (arith, t.1, e.1))
