-- `survey::turn_all` meets its contract: what is passed, then what is left turned, is the whole. Assumes nothing.
use mathlib.Core.Path.{◌≡◌}
use Rattle.laws.proofs.Maps.{mapping}
use Rattle.octet.specs.Turning.{turned}
use Rattle.survey.proofs.turn_all.Given as goal

abbrev pub invariant-loop-byte : goal.invariant-loop-byte
invariant-loop-byte l = mapping turned l.byte-index l.bytes ≡ mapping turned 0 l.initial.bytes
