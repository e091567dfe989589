-- The answers that `words::rows::row_of` wants beside its invariants. Assumes nothing.
use mathlib.Core.Path.{◌∙◌, sym}
use native.Mathlib.Omega.{arith}
use Rattle.words.proofs.Finding.{row_here, row-further, no_row}
use borrow.Author.Rules.{rules}
use Rattle.words.proofs.rows.row_of.Goals as goal

pub returns-then-is_row : goal.returns-then-is_row
returns-then-is_row c = sym (row_here _ _ c.loop-i.i c.loop-i.begins (omega arith) c.is_row.ensures c.if-is_row.true) ∙ c.loop-i.invariant.1

pub loop-i-preserved : goal.loop-i-preserved
loop-i-preserved c = (search rules, row-further _ _ c.loop-i.i c.loop-i.begins (omega arith) c.is_row.ensures c.if-is_row.false ∙ c.loop-i.invariant.1)

pub returns : goal.returns
returns c =
    let l = c.loop-i in
    let none = no_row c.args.tasks.now c.args.word.now l.i l.begins (omega arith) in
    omega (arith, none, l.invariant.1)
