-- `sheet_entry::writing::put_mended` meets its contract: by the form. Assumes nothing.
use borrow.Author.Rules.{rules}
use native.Mathlib.Omega.{arith}
use Rattle.text_lines.proofs.Printed.{put-none, put-there}
use Rattle.sheet_entry.proofs.writing.put_mended.Goals as goal

pub returns-in-Old : goal.returns-in-Old
returns-in-Old c = (rw c.in-Old.is (put-none c.args.out.now c.args.q), omega arith)

pub returns-in-New : goal.returns-in-New
returns-in-New c =
    let p = c.put_number.ensures in
    (rw c.in-New.is (put-there (search rules) p.0), omega (arith, p.1))
