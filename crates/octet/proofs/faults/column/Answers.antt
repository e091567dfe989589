-- `octet::faults::column` meets its contract: each entry is a bit, so nothing wraps, and the sum is the column's number. Assumes nothing.
use native.Mathlib.Omega.{arith}
use Rattle.octet.specs.Bits.{number}
use Rattle.octet.specs.Parity.{checks, column}
use Rattle.octet.proofs.faults.column.Goals as goal

pub returns : goal.returns
unfolding column number checks
returns c = omega arith
