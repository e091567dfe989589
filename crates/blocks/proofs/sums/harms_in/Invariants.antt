-- `blocks::sums::harms_in` meets its contract: those counted so far and the harms of what is left are all. The measure is what is left of the length.
-- Assumes nothing.
use mathlib.Core.Path.{◌≡◌}
use Prim.Native.Nat.{◌+◌, ◌≤◌}
use lib.ListN.{drop}
use Rattle.octet.specs.Hearing.{harms}
use Rattle.blocks.proofs.sums.harms_in.Given as goal

abbrev pub invariant-loop-b : goal.invariant-loop-b
invariant-loop-b l = (l.count ≤ l.b-index) × (l.count + harms (drop l.b-index l.s) ≡ harms l.s)
