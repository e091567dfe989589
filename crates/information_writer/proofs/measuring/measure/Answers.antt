-- `information_writer::measuring::measure` meets its contract: what stands before the networks, then these. Assumes nothing.
use Rattle.information_writer.proofs.Listed.{measured}
use Rattle.information_writer.proofs.measuring.measure.Goals as goal

pub returns : goal.returns
returns c =
    let a = c.args in
    let n = c.byte_at-name in
    let o = c.opening_fine-fine in
    let k = c.byte_at in
    let m = c.measure_networks in
    (measured a.form.now n.result k.result m.result o.result n.ensures.0 n.ensures.1 k.ensures.0 k.ensures.1 o.ensures m.ensures.0 m.ensures.2, m.ensures.1)
