-- `octet::turn` meets its contract: the lower half turned goes above the upper half turned. Assumes nothing.
use mathlib.Core.Path.{sym}
use Rattle.octet.proofs.Halves.{halves}
use Rattle.octet.specs.Turning.{turned}
use Rattle.octet.proofs.turn.Goals as goal

pub returns : goal.returns
unfolding turned
returns c = rw (c.half.ensures.value, c.half-2.ensures.value) (sym (halves 4 c.args.b))
