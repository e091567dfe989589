-- `reader::held::let_go` meets its contract: only a block holds bytes, and they are cleared. Assumes nothing.
use mathlib.Core.Path.{◌∙◌}
use Rattle.walk.proofs.Keeping.{kept-body, body-clear}
use Rattle.reader.proofs.Holding.{none_held}
use Rattle.reader.proofs.held.let_go.Goals as goal

pub returns-in_default : goal.returns-in_default
returns-in_default c = none_held c.args.run c.args.store.now c.requires c.in_default.not-Body

pub returns-in-Body : goal.returns-in-Body
returns-in-Body c = c.clear.ensures ∙ body-clear (kept-body c.requires c.in-Body.is)
