-- `symbols::moved` meets its contract: each `return` is by the test that led there. Assumes nothing.
use borrow.Author.Rules.{rules}
use Prim.Native.Nat.{◌+◌, ◌*◌, ◌/◌, ◌<◌, ◌≤◌}
use borrow.Author.Tests.{lt-ltb, le-ltb}
use Rattle.symbols.proofs.moved.Goals as goal

pub returns-then-pen-cells_of : goal.returns-then-pen-cells_of
returns-then-pen-cells_of c = let a = c.args in let h : a.pen.sent + 1 < (a.size + 7) / 3 * 3 = search rules in rw (lt-ltb _ _ h)

pub returns-else-pen-cells_of : goal.returns-else-pen-cells_of
returns-else-pen-cells_of c = let a = c.args in let h : (a.size + 7) / 3 * 3 ≤ a.pen.sent + 1 = search rules in rw (le-ltb _ _ h)
