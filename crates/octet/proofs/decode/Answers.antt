-- `octet::decode` meets its contract: its table is the rule tabulated, so each entry is the rule there. Assumes nothing.
use borrow.Author.Rules.{rules}
use Rattle.laws.proofs.Whole.{tabulate-at}
use Rattle.octet.specs.Bits.{number, differing}
use Rattle.octet.specs.Image.{image, with_parity}
use Rattle.octet.specs.Decoding.{nib, nibble_from}
use Rattle.octet.proofs.decode.Goals as goal

pub returns : goal.returns
unfolding nib nibble_from image with_parity differing number
returns c = tabulate-at nib 256 c.args.b (search rules)
