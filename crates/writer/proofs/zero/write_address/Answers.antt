-- `writer::zero::write_address` meets its contract: the two nibbles' images are the address, where it has room. Assumes nothing.
use borrow.Author.Rules.{rules}
use Rattle.writer.proofs.PacketZero.{placed, unplaced}
use Rattle.writer.proofs.zero.write_address.Goals as goal

pub returns-then-out-q : goal.returns-then-out-q
returns-then-out-q c = unplaced _ _ _ 2 (search rules)

pub returns-then-out-q-lt-ADDRESS : goal.returns-then-out-q-lt-ADDRESS
returns-then-out-q-lt-ADDRESS c = unplaced _ _ _ 2 (search rules)

pub returns : goal.returns
returns c =
    let a = c.args in
    placed a.out.now c.write_images.new.out _ a.q 2 (search rules) (search rules) c.write_images.ensures
