-- `words::rows::up_to` meets its contract: the part that `before` counts. Assumes nothing.
use Rattle.words.proofs.Finding.{part-up-to}
use Rattle.words.proofs.rows.up_to.Goals as goal

pub returns : goal.returns
returns c = part-up-to _ _ c.before-n.ensures.0
