-- `reader::held::flow` meets its contract: what comes of the bytes from the place on is what comes of all of them. Assumes nothing.
use mathlib.Core.Path.{◌≡◌}
use mathlib.Core.List.{[]}
use Prim.Native.Nat.{◌+◌, ◌-◌, ◌*◌, ◌≤◌}
use lib.ListN.{length, drop}
use Rattle.blocks.specs.Block.{head_length}
use Rattle.walk.specs.Store.{zeroed}
use Rattle.walk.proofs.Adding.{place, Leads}
use Rattle.reader.proofs.held.flow.Given as goal

abbrev pub invariant-loop-got : goal.invariant-loop-got
invariant-loop-got l =
    (l.at ≤ length l.s) × (l.q ≤ l.initial.q + l.at) × (head_length * l.blocks ≤ l.q) × (length l.out ≡ length l.initial.out) × (l.store ≡ zeroed [])
    × Leads l.s (place l.dropped l.initial.blocks l.initial.q) l.initial.out (drop l.at l.s) (place l.dropped l.blocks l.q) l.out

abbrev pub decreases-loop-got : goal.decreases-loop-got
decreases-loop-got l = length l.s - l.at
