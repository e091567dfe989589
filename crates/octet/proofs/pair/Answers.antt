-- `octet::pair` meets its contract: the lowest bit goes above the second. Assumes nothing.
use native.Mathlib.Omega.{arith}
use Rattle.octet.specs.Bits.{bits, number}
use Rattle.octet.proofs.pair.Goals as goal

pub returns : goal.returns
unfolding bits number
returns c = record {
  value = omega arith;
  upper_bound = omega arith;
}
