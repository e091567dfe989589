-- The answers that `writer::write_page` wants beside its invariants. Assumes nothing.
use native.Mathlib.Omega.{arith}
use borrow.Author.Rules.{rules}
use lib.Seq.{sets}
use Rattle.packet.specs.Packet.{packet_zero}
use Rattle.writer.proofs.PacketZero.{written}
use Rattle.symbols.specs.Internal.{rest_of}
use Rattle.writer.proofs.Paging.{rowed-none, rowed-more, rowed-all, page-laid}
use Rattle.writer.proofs.write_page.Goals as goal

pub loop-y-init : goal.loop-y-init
loop-y-init c = rowed-none _ _ _ _ _ _ (search rules)

pub loop-y-preserved : goal.loop-y-preserved
loop-y-preserved c =
    let w = c.write_packet-at in
    rowed-more c.loop-y.invariant (omega arith)
    w.new.out w.result w.ensures.out_after w.ensures.goes

pub returns : goal.returns
returns c =
    let a = c.args in
    let e = rowed-all c.loop-y.invariant (omega arith) in record {
      out_after = page-laid a.s a.k a.index (rest_of a.records.now a.pen) a.out.now c.write_zero.new.out c.loop-y.out
          a.q (written a.out.now c.write_zero.new.out (sets a.out.now a.q (packet_zero a.s a.index a.k)) a.q 42 (search rules) c.write_zero.ensures) e.0;
      goes = e.1;
    }

pub returns-2 : goal.returns-2
returns-2 c =
    let a = c.args in
    let w = c.write_packet-at in
    let r = rowed-more c.loop-y.invariant (omega arith) w.new.out w.result w.ensures.out_after w.ensures.goes in
    let e = rowed-all r (omega arith) in record {
      out_after = page-laid a.s a.k a.index (rest_of a.records.now a.pen) a.out.now c.write_zero.new.out w.new.out
          a.q (written a.out.now c.write_zero.new.out (sets a.out.now a.q (packet_zero a.s a.index a.k)) a.q 42 (search rules) c.write_zero.ensures) e.0;
      goes = e.1;
    }
