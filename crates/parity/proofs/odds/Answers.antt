-- The answers that `parity::odds` wants beside its invariants. Assumes nothing.
use borrow.Author.Rules.{rules}
use mathlib.Core.Path.{◌∙◌, sym}
use native.Mathlib.Omega.{arith}
use Rattle.parity.proofs.Letters.{odds-step, odds-stop, odds-end}
use Rattle.parity.proofs.odds.Goals as goal

pub returns-then-not-odd : goal.returns-then-not-odd
returns-then-not-odd c =
    let l = c.loop-i in
    odds-stop _ l.i (search rules) (sym c.odd.ensures ∙ c.if-not-odd.true) ∙ l.invariant

pub loop-i-preserved : goal.loop-i-preserved
loop-i-preserved c =
    let l = c.loop-i in
    odds-step _ l.i (search rules) (sym c.odd.ensures ∙ c.if-not-odd.false) ∙ l.invariant

pub returns : goal.returns
returns c =
    let l = c.loop-i in
    let all = odds-end c.args.s.now l.i (search rules) in
    omega (arith, l.invariant, all)
