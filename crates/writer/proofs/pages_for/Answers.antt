-- `writer::pages_for` meets its contract: thirteen cells are 39 symbols. Assumes nothing.
use mathlib.Core.Path.{ap}
use Prim.Native.Nat.{ℕ, ◌+◌, ◌-◌, ◌/◌}
use native.Mathlib.Omega.{arith}
use Rattle.writer.proofs.pages_for.Goals as goal

pub returns : goal.returns
returns c = ap (λ (n : ℕ). (n + (c.args.k - 1)) / c.args.k) (omega arith)
