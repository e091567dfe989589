-- `dvb_descriptor::subtitle_of` meets its contract: each piece is the field at its place. Assumes nothing.
use native.Mathlib.Omega.{arith}
use Rattle.dvb_descriptor.proofs.Packing.{placed}
use Rattle.dvb_descriptor.proofs.subtitle_of.Goals as goal

pub returns : goal.returns
returns c = (placed c.args.language c.args.reference, omega arith, omega arith)
