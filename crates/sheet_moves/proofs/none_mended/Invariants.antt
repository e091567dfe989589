-- `sheet_moves::none_mended` meets its contract: what is left from here on decides. The measure is what is left. Assumes nothing.
use mathlib.Core.Path.{◌≡◌}
use Prim.Native.Nat.{◌-◌}
use lib.ListN.{length, drop}
use Rattle.day_sheet.specs.Calls.{entries_of}
use Rattle.sheet_moves.specs.Moving.{unmended}
use Rattle.day_sheet.specs.Internal.{Halfway}
use Rattle.sheet_moves.proofs.none_mended.Given as goal

abbrev pub invariant-loop-e : goal.invariant-loop-e
invariant-loop-e l = Halfway l.form l.sheet l.at × (unmended (entries_of l.form (drop l.at l.sheet)) ≡ unmended (entries_of l.form l.sheet))

abbrev pub decreases-loop-e : goal.decreases-loop-e
decreases-loop-e l = length l.sheet - l.at
