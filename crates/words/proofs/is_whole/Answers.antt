-- `words::is_whole` meets its contract: the places of the row that was said. Assumes nothing.
use mathlib.Core.Path.{◌∙◌, ap}
use mathlib.Core.List.{List}
use Prim.Native.Nat.{ℕ}
use Rattle.words.specs.Places.{may_end}
use Rattle.words.proofs.is_whole.Goals as goal

pub returns : goal.returns
returns c = c.may_end.ensures ∙ ap (λ (p : List ℕ). may_end p c.args.said.spot) c.places.ensures
