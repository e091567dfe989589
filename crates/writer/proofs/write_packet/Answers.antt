-- `writer::write_packet` meets its contract: the address, the pointer, though it is stored last, and the symbols are the packet's bytes. Assumes nothing.
use borrow.Author.Rules.{rules}
use mathlib.Core.Path.{◌∙◌}
use native.Mathlib.Omega.{arith}
use lib.ListN.{length-set}
use Rattle.writer.proofs.PacketZero.{written}
use Rattle.symbols.specs.Stream.{per_packet, grab}
use Rattle.symbols.specs.Internal.{rest_of}
use Rattle.writer.proofs.Filling.{length-grab, before_le}
use Rattle.writer.proofs.Laying.{packet-laid}
use Rattle.writer.proofs.write_packet.Goals as goal

pub overflow_cast-sent : goal.overflow_cast-sent
overflow_cast-sent c =
    let a = c.args in
    let ss = grab per_packet (rest_of a.records.now a.pen) in
    omega (arith, c.write_symbols-sent.ensures.before_value, before_le ss, length-grab per_packet (rest_of a.records.now a.pen))

pub shape_of-out : goal.shape_of-out
shape_of-out c =
    simp length-set
    (c.write_symbols-sent.auto.out
    ∙ c.write_address.auto.out)

pub returns : goal.returns
returns c =
    let a = c.args in
    let ss = rest_of a.records.now a.pen in
    let row = c.write_symbols-sent in
    let head = written a.out.now _ _ a.q 2 (search rules) c.write_address.ensures in
    let laid = packet-laid a.s a.y ss a.out.now c.write_address.new.out row.new.out a.q row.result.before in
    record {
      out_after = laid c.image.result head row.ensures.out_after row.ensures.before_value c.image.ensures;
      goes = row.ensures.goes;
    }
