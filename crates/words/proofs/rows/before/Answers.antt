-- The answers that `words::rows::before` wants beside its invariants. Assumes nothing.
use mathlib.Core.Path.{◌∙◌, sym}
use native.Mathlib.Omega.{arith}
use Rattle.words.proofs.Finding.{byte_here, byte-further, no_byte}
use borrow.Author.Rules.{rules}
use Rattle.words.proofs.rows.before.Goals as goal

pub returns-then-x-b : goal.returns-then-x-b
returns-then-x-b c = (sym (byte_here _ _ c.loop-i.i (omega arith) c.if-x-b.true) ∙ c.loop-i.invariant.1, omega arith)

pub loop-i-preserved : goal.loop-i-preserved
loop-i-preserved c = (search rules, byte-further _ _ c.loop-i.i (omega arith) c.if-x-b.false ∙ c.loop-i.invariant.1)

pub returns : goal.returns
returns c =
    let l = c.loop-i in
    let none = no_byte c.args.b c.args.text.now l.i (omega arith) in
    (omega (arith, none, l.invariant.1), omega arith)
