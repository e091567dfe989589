-- `state::two::fresh` meets its contract. Assumes nothing.
use mathlib.Core.Path.{refl}
use Rattle.walk.specs.Store.{zeroed}
use Rattle.state.proofs.two.fresh.Goals as goal

pub returns : goal.returns
unfolding zeroed
returns c = refl
