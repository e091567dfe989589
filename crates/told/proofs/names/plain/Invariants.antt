-- `told::names::plain` meets its contract: what is passed, then what is left as it is told, is the whole. Assumes nothing.
use Rattle.std.proofs.Common.{◌≡◌}
use Rattle.laws.proofs.Maps.{mapping}
use Rattle.told.specs.Names.{printed}
use Rattle.told.proofs.names.plain.Given as goal

abbrev pub invariant-loop-b : goal.invariant-loop-b
invariant-loop-b l = mapping printed l.b-index l.name ≡ mapping printed 0 l.initial.name
