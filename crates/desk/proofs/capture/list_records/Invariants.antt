-- `desk::capture::list_records` is safe and ends: each turn goes on to a place further on, and not past the end. Assumes nothing.
use mathlib.Core.Path.{◌≡◌}
use Prim.Native.Nat.{◌≤◌, ◌-◌}
use lib.ListN.{length}
use Rattle.desk.proofs.capture.list_records.Given as goal

abbrev pub invariant-loop-at : goal.invariant-loop-at
invariant-loop-at g l = (l.at ≤ length l.records) × (length l.text ≡ length l.initial.text) × (length l.form ≡ length l.initial.form)

abbrev pub decreases-loop-at : goal.decreases-loop-at
decreases-loop-at g l = length l.records - l.at
