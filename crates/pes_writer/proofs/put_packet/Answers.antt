-- `pes_writer::put_packet` meets its contract: what its three parts store, one after the other, is the packet. Assumes nothing.
use Rattle.pes_writer.proofs.Making.{packet-parts}
use Rattle.pes_writer.proofs.put_packet.Goals as goal

pub returns : goal.returns
returns c =
    let a = c.args in
    packet-parts a.d a.records.now a.out.now _ _ _ c.put_header.ensures c.put_units.ensures c.put_stuffing.ensures
