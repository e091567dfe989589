-- `symbols::cells::first` meets its contract: each branch is by the test that led there. Assumes nothing.
use native.Mathlib.Omega.{arith}
use Rattle.symbols.proofs.cells.first.Goals as goal

pub returns-then-starts : goal.returns-then-starts
returns-then-starts c = rw c.if-starts.true (omega arith)

pub returns-else-starts : goal.returns-else-starts
returns-else-starts c = rw c.if-starts.false
