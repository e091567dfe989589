-- `told::say` ends: each part that is taken leaves fewer bytes. Assumes nothing.
use Rattle.std.proofs.Common.{length}
use Rattle.told.proofs.say.Given as goal

abbrev pub decreases-loop-rest : goal.decreases-loop-rest
decreases-loop-rest g l = length l.rest
