-- `broadcast::tallies::is_none` meets its contract. Assumes nothing.
use mathlib.Core.Path.{ap}
use Prim.Native.Nat.{ℕ}
use lib.Dec.{eqb}
use Rattle.broadcast.proofs.tallies.is_none.Goals as goal

pub returns : goal.returns
returns c = ap (λ (n : ℕ). eqb n 0) c.tallied_at.ensures
