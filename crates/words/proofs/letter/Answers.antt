-- `words::letter` meets its contract: the places of the row that was said. Assumes nothing.
use mathlib.Core.Path.{◌∙◌, ap}
use mathlib.Core.List.{List}
use Prim.Native.Nat.{ℕ}
use Rattle.words.specs.Places.{letter_at}
use Rattle.words.proofs.letter.Goals as goal

pub returns : goal.returns
returns c = c.letter_at.ensures ∙ ap (λ (p : List ℕ). letter_at p c.args.said.spot) c.places.ensures
