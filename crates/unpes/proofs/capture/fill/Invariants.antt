-- `unpes::capture::fill` is safe and ends: each turn goes on to a place further on, and not past the end. Assumes nothing.
use mathlib.Core.Path.{◌≡◌}
use Prim.Native.Nat.{◌-◌}
use lib.ListN.{length}
use Rattle.unpes.proofs.capture.fill.Given as goal

abbrev pub invariant-loop-n : goal.invariant-loop-n
invariant-loop-n g l = length l.slice ≡ length l.initial.slice

abbrev pub decreases-loop-n : goal.decreases-loop-n
decreases-loop-n g l = length l.slice - l.n
