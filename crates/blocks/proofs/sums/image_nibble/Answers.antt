-- `blocks::sums::image_nibble` meets its contract: antt computes, over all bytes, that it is an image's nibble. Assumes nothing.
use borrow.Author.Rules.{rules}
use Rattle.blocks.proofs.Clearing.{image-bits}
use Rattle.blocks.proofs.sums.image_nibble.Goals as goal

pub returns : goal.returns
returns c = image-bits c.args.b (search rules) c.requires
