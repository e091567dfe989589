-- `parity::odd` meets its contract: the library counts the ones. Assumes nothing.
use borrow.Author.Rules.{rules}
use mathlib.Core.Path.{ap}
use Prim.Native.Nat.{ℕ}
use lib.Dec.{eqb}
use Rattle.parity.specs.Parity.{is_odd}
use Rattle.parity.proofs.Letters.{ones_counted}
use Rattle.parity.proofs.odd.Goals as goal

pub returns : goal.returns
unfolding is_odd
returns c = ap (λ (x : ℕ). eqb x 1) (ones_counted _ (search rules))
