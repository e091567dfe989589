-- `sheet::capture::add_records` is safe and ends: each turn goes on to a place further on, and not past the end. Assumes nothing.
use Rattle.std.proofs.Common.{◌≡◌, ◌≤◌, ◌-◌, length}
use Rattle.sheet.proofs.capture.add_records.Given as goal

abbrev pub invariant-loop-at : goal.invariant-loop-at
invariant-loop-at l = (l.at ≤ length l.records) × (length l.form ≡ length l.initial.form) × (length l.sheet ≡ length l.initial.sheet) × (length l.spare ≡ length l.initial.spare) × (length l.kept ≡ length l.initial.kept)

abbrev pub decreases-loop-at : goal.decreases-loop-at
decreases-loop-at l = length l.records - l.at
