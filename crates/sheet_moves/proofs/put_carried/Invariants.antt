-- `sheet_moves::put_carried` meets its contract: what is left of the sheet gives what is still to be put. The measure is what is left.
-- Assumes nothing.
use mathlib.Core.Path.{◌≡◌}
use Prim.Native.Nat.{◌-◌, ◌*◌, ◌≤◌}
use lib.ListN.{length, drop}
use Rattle.text_lines.proofs.Printed.{Left}
use Rattle.day_sheet.specs.Entries.{sheet_text}
use Rattle.day_sheet.specs.Calls.{entries_of}
use Rattle.sheet_moves.specs.Internal.{Plainly}
use Rattle.sheet_moves.proofs.put_carried.Given as goal

abbrev pub invariant-loop-e : goal.invariant-loop-e
invariant-loop-e l =
    Plainly l.from l.sheet l.at × Left l.out l.q (sheet_text l.to (entries_of l.from (drop l.at l.sheet))) l.initial.out 0 (sheet_text l.to (entries_of l.from l.sheet)) × (l.q ≤ 10 * l.at)
    × (length l.out ≡ length l.initial.out)

abbrev pub decreases-loop-e : goal.decreases-loop-e
decreases-loop-e l = length l.sheet - l.at
