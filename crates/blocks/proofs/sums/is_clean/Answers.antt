-- The answers that `blocks::sums::is_clean` wants beside its invariants. Assumes nothing.
use borrow.Author.Rules.{rules}
use mathlib.Core.Path.{◌∙◌, refl, sym}
use mathlib.Core.List.{List}
use Prim.Native.Nat.{ℕ}
use Rattle.blocks.proofs.Mending.{checked_on, checked_end}
use Rattle.blocks.proofs.sums.is_clean.Goals as goal

pub loop-b-init : goal.loop-b-init
loop-b-init c = refl

pub loop-b-preserved : goal.loop-b-preserved
loop-b-preserved c =
    let l = c.loop-b in
    let s : List ℕ = c.args.s.now in
    checked_on s l.b-index l.mix c.checks-mix.result (search rules) c.checks-mix.ensures ∙ l.invariant

pub returns : goal.returns
returns c =
    let l = c.loop-b in
    sym (checked_end c.args.s.now l.b-index l.mix (search rules)) ∙ l.invariant
