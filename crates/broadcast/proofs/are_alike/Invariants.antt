-- `broadcast::are_alike` meets its contract: what is left is alike exactly when all is. Assumes nothing.
use mathlib.Core.Path.{◌≡◌}
use lib.ListN.{drop}
use Rattle.blocks.specs.Block.{head_length}
use Rattle.broadcast.specs.Same.{alikes}
use Rattle.broadcast.proofs.are_alike.Given as goal

abbrev pub invariant-loop-i : goal.invariant-loop-i
invariant-loop-i l =
    alikes (drop l.i l.first) (drop l.i l.second) ≡ alikes (drop head_length l.first) (drop head_length l.second)
