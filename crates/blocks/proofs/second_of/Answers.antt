-- `blocks::second_of` meets its contract: past the end of a list 0 stands. Assumes nothing.
use mathlib.Core.Path.{sym}
use native.Mathlib.Omega.{arith}
use lib.ListN.{get_or-eq_default}
use Rattle.blocks.proofs.second_of.Goals as goal

pub returns-then-rec-lt-HEAD : goal.returns-then-rec-lt-HEAD
returns-then-rec-lt-HEAD c = sym (get_or-eq_default c.args.rec.now 0 (omega arith))
