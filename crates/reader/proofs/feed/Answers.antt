-- `reader::feed` meets its contract: the packet as a list of one. Assumes nothing.
use mathlib.Core.Path.{◌∙◌}
use Rattle.reader.specs.Feeding.{tuned_to}
use Rattle.reader.proofs.Answering.{one}
use Rattle.reader.proofs.AnsweringMany.{records_none}
use Rattle.reader.proofs.feed.Goals as goal

pub returns : goal.returns
returns c =
    let a = c.args in
    let f = c.feed-heard.ensures in
    let it = one tuned_to a.setting records_none a.reader a.packet.now a.out.now in
    record { heard_value = f.heard ∙ it.0; reader_value = f.reader ∙ it.1.0; out_after = f.out_after ∙ it.1.1 }
