-- `words::numbers::kind_of` meets its contract: its tests in order. Assumes nothing.
use mathlib.Core.Path.{◌∙◌, sym}
use Rattle.words.specs.Numbers.{kind_of}
use Rattle.words.proofs.numbers.kind_of.Goals as goal

pub returns-then-same : goal.returns-then-same
unfolding kind_of
returns-then-same c = simp (sym c.same.ensures ∙ c.if-same.true)

pub returns-then-same-2 : goal.returns-then-same-2
unfolding kind_of
returns-then-same-2 c = simp (sym c.same.ensures ∙ c.if-same.false, sym c.same-2.ensures ∙ c.if-same-2.true)

pub returns : goal.returns
unfolding kind_of
returns c = simp (sym c.same.ensures ∙ c.if-same.false, sym c.same-2.ensures ∙ c.if-same-2.false)
