-- The answers that `words::options::option_of` wants beside its invariants. Assumes nothing.
use mathlib.Core.Path.{◌∙◌, sym}
use native.Mathlib.Omega.{arith}
use Rattle.words.proofs.Finding.{option-here, option-further, no_option}
use borrow.Author.Rules.{rules}
use Rattle.words.proofs.options.option_of.Goals as goal

pub returns-then-entry-letter : goal.returns-then-entry-letter
returns-then-entry-letter c = sym (option-here _ _ c.loop-k.k c.entry.ensures (omega arith) c.if-entry-letter.true) ∙ c.loop-k.invariant.1

pub loop-k-preserved : goal.loop-k-preserved
loop-k-preserved c = (search rules, option-further _ _ c.loop-k.k c.entry.ensures (omega arith) c.if-entry-letter.false ∙ c.loop-k.invariant.1)

pub returns : goal.returns
returns c =
    let l = c.loop-k in
    let none = no_option c.args.options.now c.args.letter l.k (omega arith) in
    omega (arith, none, l.invariant.1)
