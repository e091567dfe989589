-- `words::rows::takes` meets its contract: the second part of the row. Assumes nothing.
use mathlib.Core.Path.{◌∙◌, ap}
use mathlib.Core.List.{[], ◌∷◌}
use Rattle.texts.specs.Texts.{stands_in}
use Rattle.words.specs.Rows.{up_to, behind, space}
use Rattle.words.proofs.rows.takes.Goals as goal

pub returns : goal.returns
returns c = c.holds.ensures ∙ ap (stands_in (c.args.letter ∷ [])) (c.up_to.ensures ∙ ap (up_to space) (c.behind.ensures ∙ ap (behind space) c.from.ensures))
