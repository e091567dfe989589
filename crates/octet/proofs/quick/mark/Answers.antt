-- `octet::quick::mark` meets its contract: the entry of each byte in its eight is the rule there, as antt computes it over all bytes.
-- Assumes nothing.
use borrow.Author.Rules.{rules}
use Rattle.octet.specs.Bits.{number, differing}
use Rattle.octet.specs.Image.{image, with_parity}
use Rattle.octet.specs.Decoding.{nib, nibble_from}
use Rattle.octet.specs.Hearing.{harm, mark}
use Rattle.octet.specs.Packing.{packed}
use Rattle.octet.proofs.Eights.{entry_at}
use Rattle.octet.proofs.quick.mark.Goals as goal

pub returns : goal.returns
unfolding packed mark harm nib nibble_from image with_parity differing number
returns c = entry_at mark tt c.eight_marks.result c.args.b (search rules) c.eight_marks.ensures
