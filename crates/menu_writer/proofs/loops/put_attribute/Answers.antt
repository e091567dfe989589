-- `menu_writer::loops::put_attribute` meets its contract: kind and information are laid in a row. Assumes nothing.
use native.Mathlib.Omega.{arith}
use Rattle.menu_writer.proofs.Entries.{attribute_sent}
use Rattle.menu_writer.proofs.loops.put_attribute.Goals as goal

pub returns : goal.returns
returns c =
    let p = attribute_sent c.args.form.now c.args.at c.args.to c.byte_at-kind.result c.info_bytes-k.result c.number_at-info.result c.args.out.now
    c.lay-p.new.out _ c.byte_at-kind.ensures.0 c.info_bytes-k.ensures.0 c.info_bytes-k.ensures.2 c.number_at-info.ensures.0
    (omega (arith, c.well_formed.1.1.0.0)) c.lay-p.ensures.0 c.lay-p.ensures.1 c.lay.ensures.1 in
    (p.0, omega (arith, c.info_bytes-k.ensures.2), p.1)
