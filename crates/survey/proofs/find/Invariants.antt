-- `survey::find` meets its contract. The loop's invariant: the first place from here on is the first of all. Assumes nothing.
use mathlib.Core.Path.{◌≡◌}
use lib.ListN.{drop}
use Rattle.survey.specs.Fitting.{first_in}
use Rattle.survey.proofs.find.Given as goal

abbrev pub invariant-loop-at : goal.invariant-loop-at
invariant-loop-at l = first_in l.setting (drop l.at l.bytes) l.at ≡ first_in l.setting l.bytes 0
