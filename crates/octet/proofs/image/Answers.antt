-- `octet::image` meets its contract: its table is the parity formula tabulated, and only n modulo 16 counts in the formula.
-- Assumes nothing.
use borrow.Author.Rules.{rules}
use mathlib.Core.Path.{◌∙◌, sym}
use Prim.Native.Nat.{◌%◌}
use Rattle.laws.proofs.Whole.{tabulate-at}
use Rattle.octet.specs.Bits.{number}
use Rattle.octet.specs.Image.{image, with_parity}
use Rattle.octet.proofs.Lowest.{image_mod}
use Rattle.octet.proofs.image.Goals as goal

pub returns : goal.returns
unfolding image with_parity number
returns c = tabulate-at image 16 (c.args.n % 16) (search rules) ∙ sym (image_mod c.args.n)
