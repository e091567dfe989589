-- `octet::faults::fails` meets its contract: at each place of the row the parity so far, with what is left of the product, is that of
-- the whole product. Assumes nothing.
use mathlib.Core.Path.{◌≡◌}
use Prim.Native.Nat.{◌+◌, ◌%◌, ◌≤◌}
use lib.ListN.{drop}
use Rattle.octet.specs.Parity.{product, fails}
use Rattle.octet.proofs.Rows.{row}
use Rattle.octet.proofs.faults.fails.Given as goal

abbrev pub invariant-loop-i : goal.invariant-loop-i
invariant-loop-i l = (l.sum ≤ 1) × ((l.sum + product (drop l.i (row l.k)) l.rest) % 2 ≡ fails (row l.k) l.b)
