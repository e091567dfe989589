-- `sheet_joins::lines_stay` meets its contract: by the tests. Assumes nothing.
use mathlib.Core.Path.{◌∙◌, sym}
use Rattle.sheet_joins.specs.Internal.{lines_stay}
use Rattle.sheet_joins.proofs.lines_stay.Goals as goal

pub returns-then-not-is_before : goal.returns-then-not-is_before
unfolding lines_stay
returns-then-not-is_before c =
    let a = c.is_before.ensures in
    let b = c.is_before-then-is_before.ensures in
    rw (sym a ∙ c.if-is_before.true, sym b ∙ c.if-not-is_before.true, c.if-not-is_before.true)

pub returns-else-not-is_before : goal.returns-else-not-is_before
unfolding lines_stay
returns-else-not-is_before c =
    let a = c.is_before.ensures in
    let b = c.is_before-then-is_before.ensures in
    rw (sym a ∙ c.if-is_before.true, sym b ∙ c.if-not-is_before.false)

pub returns-else-is_before : goal.returns-else-is_before
unfolding lines_stay
returns-else-is_before c =
    let a = c.is_before.ensures in
    rw (sym a ∙ c.if-is_before.false, c.if-is_before.false)
