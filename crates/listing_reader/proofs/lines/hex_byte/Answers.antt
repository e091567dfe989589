-- `listing_reader::lines::hex_byte` meets its contract: by its callees. Assumes nothing.
use borrow.Author.Rules.{rules}
use Rattle.listing_reader.proofs.lines.hex_byte.Goals as goal

pub returns : goal.returns
returns c =
    let a = c.nibble_of.ensures in
    (cc, search rules)
