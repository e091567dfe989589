-- `aerials::broken` meets its contract: those counted and those still to be counted are as many as at the start. The measure is how many
-- bytes are left to look at. Assumes nothing.
use mathlib.Core.Path.{◌≡◌}
use Prim.Native.Nat.{◌+◌, ◌-◌, ◌≤◌}
use lib.ListN.{drop}
use Rattle.aerials.specs.Better.{judged_bytes, broken_in}
use Rattle.aerials.proofs.broken.Given as goal

abbrev pub invariant-loop-i : goal.invariant-loop-i
invariant-loop-i l =
    (l.i ≤ judged_bytes) × (l.n ≤ l.i) × (l.n + broken_in (judged_bytes - l.i) (drop l.i l.packet) ≡ broken_in judged_bytes l.packet)
