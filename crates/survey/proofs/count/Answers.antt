-- `survey::count` meets its contract: the verdict tells what the packet is. Assumes nothing.
use mathlib.Core.Path.{◌∙◌, ap}
use Rattle.survey.specs.Either.{see_either}
use Rattle.survey.specs.Internal.{heeded}
use Rattle.survey.proofs.Telling.{shaped_in, heeds}
use Rattle.survey.proofs.count.Goals as goal

pub returns : goal.returns
returns c =
    let a = c.args in
    c.heed.ensures ∙ ap (heeded a.counts) c.ask.ensures ∙ heeds a.packet.now a.counts (see_either a.setting a.packet.now) (shaped_in a.setting a.packet.now)
