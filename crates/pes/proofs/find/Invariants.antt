-- `pes::find` meets its contract. The loop's invariant: the first place from here on is the first from the start on. Assumes nothing.
use mathlib.Core.Path.{◌≡◌}
use lib.ListN.{drop}
use Rattle.pes.specs.Finding.{first_in}
use Rattle.pes.proofs.find.Given as goal

abbrev pub invariant-loop-at : goal.invariant-loop-at
invariant-loop-at l = first_in (drop l.at l.bytes) l.at ≡ first_in (drop l.from l.bytes) l.from
