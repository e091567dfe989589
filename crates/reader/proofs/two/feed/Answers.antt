-- `reader::two::feed` meets its contract: the packet as a list of one. Assumes nothing.
use mathlib.Core.Path.{◌∙◌}
use Rattle.reader.specs.Two.{tuned_to_two}
use Rattle.reader.proofs.Answering.{one}
use Rattle.reader.proofs.AnsweringTwo.{marked-none}
use Rattle.reader.proofs.two.feed.Goals as goal

pub returns : goal.returns
returns c =
    let a = c.args in
    let f = c.feed-heard.ensures in
    let it = one tuned_to_two a.setting (marked-none a.setting) a.readers a.packet.now a.out.now in
    record { heard_value = f.heard ∙ it.0; readers_value = f.reader ∙ it.1.0; out_after = f.out_after ∙ it.1.1 }
