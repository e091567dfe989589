-- `parity::odds` meets its contract: the bytes passed and those still to come before the first of wrong parity are as many as at the start.
-- Assumes nothing.
use mathlib.Core.Path.{◌≡◌}
use Prim.Native.Nat.{◌+◌}
use lib.ListN.{drop}
use Rattle.parity.specs.Parity.{odds}
use Rattle.parity.proofs.odds.Given as goal

abbrev pub invariant-loop-i : goal.invariant-loop-i
invariant-loop-i l = l.i + odds (drop l.i l.s) ≡ odds l.s
