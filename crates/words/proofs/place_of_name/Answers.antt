-- `words::place_of_name` meets its contract: its test. Assumes nothing.
use mathlib.Core.Path.{◌∙◌, sym}
use Rattle.words.proofs.place_of_name.Goals as goal

pub returns-then-looks_like_name : goal.returns-then-looks_like_name
returns-then-looks_like_name c = simp (sym c.looks_like_name.ensures ∙ c.if-looks_like_name.true) c.letter.ensures

pub returns-else-looks_like_name : goal.returns-else-looks_like_name
returns-else-looks_like_name c = simp (sym c.looks_like_name.ensures ∙ c.if-looks_like_name.false)
