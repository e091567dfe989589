-- `reader::two::put_tagged` meets its contract: what is left of the records makes all that is to be put. Assumes nothing.
use mathlib.Core.Path.{◌≡◌}
use Prim.Native.Nat.{◌-◌, ◌≤◌}
use lib.ListN.{length}
use Rattle.reader.proofs.Tagging.{Left}
use Rattle.reader.proofs.two.put_tagged.Given as goal

abbrev pub invariant-loop-p : goal.invariant-loop-p
invariant-loop-p l =
    (l.n ≤ length l.records) × (length l.out ≡ length l.initial.out) × Left l.stream l.records l.n l.initial.out l.to l.p l.out l.q

abbrev pub decreases-loop-p : goal.decreases-loop-p
decreases-loop-p l = l.n - l.p
