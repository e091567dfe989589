-- `sheet_moves::put_mark` meets its contract: by the form. Assumes nothing.
use borrow.Author.Rules.{rules}
use native.Mathlib.Omega.{arith}
use Rattle.text_lines.proofs.Printed.{put-none, put-there}
use Rattle.sheet_entry.specs.declared.Form.TheVariants.{New}
use Rattle.sheet_moves.proofs.Carried.{mark-long}
use Rattle.sheet_moves.proofs.put_mark.Goals as goal

pub returns-in-Old : goal.returns-in-Old
returns-in-Old c = (rw c.in-Old.is (put-none c.args.out.now c.args.q), omega arith)

pub returns-in-New : goal.returns-in-New
returns-in-New c =
    let p = put-there (search rules) c.put_number.ensures.0 in
    (rw c.in-New.is p, omega (arith, p.moved, mark-long New))
