-- `writer::zero::write_zero` meets its contract: the ten nibbles' images and the blanks are packet 0's bytes, where it has room. Assumes nothing.
use borrow.Author.Rules.{rules}
use Rattle.writer.proofs.PacketZero.{placed, unplaced, zero_laid}
use Rattle.writer.proofs.zero.write_zero.Goals as goal

pub returns-then-out-q : goal.returns-then-out-q
returns-then-out-q c = unplaced _ _ _ 42 (search rules)

pub returns-then-out-q-lt-PACKET : goal.returns-then-out-q-lt-PACKET
returns-then-out-q-lt-PACKET c = unplaced _ _ _ 42 (search rules)

pub returns : goal.returns
returns c =
    let a = c.args in
    placed a.out.now c.write_blanks.new.out _ a.q 42 (search rules) (search rules)
    (zero_laid a.s a.index a.n a.out.now c.write_images.new.out c.write_blanks.new.out a.q c.write_images.ensures c.write_blanks.ensures)
