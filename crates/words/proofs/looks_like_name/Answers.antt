-- `words::looks_like_name` meets its contract: its tests in order. Assumes nothing.
use mathlib.Core.Path.{◌∙◌, sym}
use borrow.Author.Tests.{eqb-true}
use Rattle.words.specs.Words.{is_name}
use Rattle.words.proofs.Hearing.{empty_name, not_is}
use Rattle.words.proofs.looks_like_name.Goals as goal

pub returns-then-is_empty : goal.returns-then-is_empty
returns-then-is_empty c = c.if-is_empty.true ∙ empty_name c.args.word.now (eqb-true _ 0 (sym c.if-is_empty.ensures))

pub returns-else-is_empty : goal.returns-else-is_empty
unfolding is_name
returns-else-is_empty c = not_is _
