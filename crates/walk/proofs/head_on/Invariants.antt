-- `walk::head_on` meets its contract: what the nibbles still to come make of the bytes still to come is what they all make of all.
-- Assumes nothing.
use mathlib.Core.Path.{◌≡◌}
use Prim.Native.Nat.{◌+◌, ◌-◌, ◌^◌, ◌≤◌, ◌<◌}
use lib.ListN.{length, drop}
use Rattle.walk.specs.Places.{heads}
use Rattle.walk.proofs.head_on.Given as goal

abbrev pub invariant-loop-g : goal.invariant-loop-g
invariant-loop-g l =
    (l.from ≤ length l.s → l.i ≤ length l.s) × (l.i + (4 - l.g) ≡ l.from + (4 - l.got)) × (l.bits < 2 ^ 16)
    × (l.part + (4 - l.g) ≤ l.fn.part + (4 - l.got))
    × (heads (4 - l.g) l.bits l.part (drop l.i l.s) ≡ heads (4 - l.got) l.fn.bits l.fn.part (drop l.from l.s))
