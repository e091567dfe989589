-- `octet::faults::check` meets its contract: the constant is the definition's rows, and each entry is a bit. Assumes nothing.
use mathlib.Core.Path.{refl}
use Rattle.octet.specs.Parity.{checks}
use Rattle.octet.proofs.Rows.{row-bit}
use Rattle.octet.proofs.faults.check.Goals as goal

pub returns : goal.returns
unfolding checks
returns c = record {
  value = refl;
  upper_bound = row-bit _ _ c.requires.0 c.requires.1;
}
