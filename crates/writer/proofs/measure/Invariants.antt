-- `writer::measure` meets its contract. The loop's invariant: the measure of what is left, with the cells counted so far, is the
-- measure of the whole, and no more cells are counted than bytes passed. The measure is what is left. Assumes nothing.
use mathlib.Core.Path.{◌≡◌}
use Prim.Native.Nat.{◌≤◌, ◌-◌}
use lib.ListN.{length, drop}
use Rattle.writer.specs.Internal.{measure_of}
use Rattle.writer.proofs.Measuring.{measure_from}
use Rattle.writer.proofs.measure.Given as goal

abbrev pub invariant-loop-raw : goal.invariant-loop-raw
invariant-loop-raw l =
    (l.at ≤ length l.records) × (l.cells ≤ l.at) × (measure_from l.cells (drop l.at l.records) ≡ measure_of l.records)

abbrev pub decreases-loop-raw : goal.decreases-loop-raw
decreases-loop-raw l = length l.records - l.at
