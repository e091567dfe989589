-- `menus::capture::keep_records` is safe and ends: each turn goes on to a place further on, and not past the end. Assumes nothing.
use mathlib.Core.Path.{◌≡◌}
use Prim.Native.Nat.{◌≤◌, ◌-◌}
use lib.ListN.{length}
use Rattle.menus.proofs.capture.keep_records.Given as goal

abbrev pub invariant-loop-at : goal.invariant-loop-at
invariant-loop-at l =
    (l.at ≤ length l.records) × (length l.form ≡ length l.initial.form) × (length l.heads ≡ length l.initial.heads)
    × (length l.store ≡ length l.initial.store) × (length l.numbers ≡ length l.initial.numbers)

abbrev pub decreases-loop-at : goal.decreases-loop-at
decreases-loop-at l = length l.records - l.at
