-- `changes::lines::put_lines` meets its contract: what is copied are the table's lines. Assumes nothing.
use native.Mathlib.Omega.{arith}
use Rattle.changes.proofs.Putting.{lines_put}
use Rattle.changes.proofs.lines.put_lines.Goals as goal

pub returns : goal.returns
returns c =
    (lines_put c.args.sheet.now c.args.at c.args.f c.requires.0 c.copy.ensures, omega (arith, c.requires.0.inside, c.requires.0.small))
