-- `words::rows::places` meets its contract: the third part of the row. Assumes nothing.
use mathlib.Core.Path.{◌∙◌, ap}
use Rattle.words.specs.Rows.{up_to, behind, space, line_end}
use Rattle.words.proofs.rows.places.Goals as goal

pub returns : goal.returns
returns c = c.up_to.ensures ∙ ap (up_to line_end) (c.behind-2.ensures ∙ ap (behind space) (c.behind.ensures ∙ ap (behind space) c.from.ensures))
