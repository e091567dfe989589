-- `sheet_moves::marks` meets its contract: by the form. Assumes nothing.
use native.Mathlib.Omega.{arith}
use Rattle.sheet_moves.proofs.marks.Goals as goal

pub returns-in-New : goal.returns-in-New
returns-in-New c = (rw c.in-New.is, omega arith)
