-- `walk::starts::skip` meets its contract: what is filler from the place on is the filler from `from` on. Assumes nothing.
use mathlib.Core.Path.{◌≡◌}
use Prim.Native.Nat.{◌+◌}
use lib.ListN.{drop}
use Rattle.walk.specs.Places.{fillers}
use Rattle.walk.proofs.starts.skip.Given as goal

abbrev pub invariant-loop-i : goal.invariant-loop-i
invariant-loop-i l = l.i + fillers (drop l.i l.s) ≡ l.from + fillers (drop l.from l.s)
