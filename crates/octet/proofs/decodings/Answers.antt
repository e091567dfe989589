-- `octet::decodings` meets its contract: the table is the rule tabulated, by one computed test. Assumes nothing.
use mathlib.Core.Path.{refl}
use Rattle.octet.specs.Bits.{number, differing}
use Rattle.octet.specs.Image.{image, with_parity}
use Rattle.octet.specs.Decoding.{nib, nibble_from}
use Rattle.octet.proofs.decodings.Goals as goal

pub returns : goal.returns
unfolding nib nibble_from image with_parity differing number
returns c = refl
