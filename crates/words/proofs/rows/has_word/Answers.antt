-- `words::rows::has_word` meets its contract: the row's text up to its first space. Assumes nothing.
use mathlib.Core.Path.{◌∙◌, ap}
use Rattle.texts.specs.Texts.{same_text}
use Rattle.words.specs.Rows.{up_to, space}
use Rattle.words.proofs.rows.has_word.Goals as goal

pub returns : goal.returns
returns c = c.same.ensures ∙ ap (same_text c.args.word.now) (c.up_to.ensures ∙ ap (up_to space) c.from.ensures)
