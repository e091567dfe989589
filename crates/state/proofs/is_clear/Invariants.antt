-- `state::is_clear` meets its contract: the bytes or-ed so far and those still to come are zero where all are. Assumes nothing.
use mathlib.Core.Path.{◌≡◌}
use lib.ListN.{drop}
use lib.Dec.{eqb}
use Rattle.laws.specs.Pick.{both}
use Rattle.state.specs.State.{zeros}
use Rattle.state.proofs.is_clear.Given as goal

abbrev pub invariant-loop-i : goal.invariant-loop-i
invariant-loop-i l = both (eqb l.mix 0) (zeros (drop l.i l.store)) ≡ zeros (drop l.from l.store)
