-- `blocks::sums::head_total` meets its contract: the four nibbles are the parts of the head. Assumes nothing.
use native.Mathlib.Omega.{arith}
use Rattle.blocks.proofs.Summing.{sum_head}
use Rattle.blocks.proofs.sums.head_total.Goals as goal

pub returns : goal.returns
returns c = (sum_head c.args.head, omega arith)
