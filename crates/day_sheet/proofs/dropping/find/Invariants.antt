-- `day_sheet::dropping::find` meets its contract: where the entry stands from here on is where it stands. The measure is what is left of the sheet.
-- Assumes nothing.
use mathlib.Core.Path.{◌≡◌}
use Prim.Native.Nat.{◌-◌}
use lib.ListN.{length, drop}
use Rattle.day_sheet.specs.Calls.{entries_of}
use Rattle.day_sheet.specs.Internal.{Halfway, spot_of, spot_from}
use Rattle.day_sheet.proofs.dropping.find.Given as goal

abbrev pub invariant-loop-e : goal.invariant-loop-e
invariant-loop-e l = Halfway l.form l.sheet l.at × (spot_from l.form l.key l.at (entries_of l.form (drop l.at l.sheet)) ≡ spot_of l.form l.key (entries_of l.form l.sheet))

abbrev pub decreases-loop-e : goal.decreases-loop-e
decreases-loop-e l = length l.sheet - l.at
