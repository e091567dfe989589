-- `words::rows::behind` meets its contract: the part behind what `before` counts. Assumes nothing.
use Rattle.words.proofs.Finding.{part-behind, none-behind}
use Rattle.words.proofs.rows.behind.Goals as goal

pub returns-then-text-n : goal.returns-then-text-n
returns-then-text-n c = none-behind _ _ c.before-n.ensures.0 c.if-text-n.true

pub returns : goal.returns
returns c = part-behind _ _ c.before-n.ensures.0
