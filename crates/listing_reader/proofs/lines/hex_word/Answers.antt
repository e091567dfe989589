-- `listing_reader::lines::hex_word` meets its contract: by its callees. Assumes nothing.
use Rattle.listing_reader.specs.Lines.{hex_word}
use Rattle.listing_reader.proofs.lines.hex_word.Goals as goal

pub returns : goal.returns
unfolding hex_word
returns c =
    let a = c.hex_byte-high.ensures.0 in
    let b = c.hex_byte-middle.ensures.0 in
    rw (a, b, c.hex_byte-low.ensures.0)
