-- `day_sheet::entries::read` meets its contract: the entries counted, with those left from here on, are the whole sheet. The measure is what is left of it. Assumes nothing.
use mathlib.Core.Path.{◌≡◌}
use Prim.Native.Nat.{◌-◌, ◌≤◌}
use lib.ListN.{length, drop}
use Rattle.day_sheet.specs.Internal.{sheet_read}
use Rattle.day_sheet.specs.Reading.{sheet_from, sheet_of}
use Rattle.day_sheet.proofs.Walking.{sheet_after}
use Rattle.day_sheet.proofs.entries.read.Given as goal

abbrev pub invariant-loop-e : goal.invariant-loop-e
invariant-loop-e l = (l.at ≤ length l.sheet) × (l.count ≤ l.at) × (sheet_after l.count l.at (sheet_from l.form l.least (drop l.at l.sheet)) ≡ sheet_read (sheet_of l.form l.sheet))

abbrev pub decreases-loop-e : goal.decreases-loop-e
decreases-loop-e l = length l.sheet - l.at
