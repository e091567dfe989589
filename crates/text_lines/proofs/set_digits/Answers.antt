-- The answers that `text_lines::set_digits` wants beside its invariants. Assumes nothing.
use borrow.Author.Rules.{rules}
use mathlib.Core.Path.{◌∙◌, refl}
use Prim.Native.Nat.{◌≤◌}
use native.Mathlib.Omega.{arith}
use lib.ListN.{length-set}
use Rattle.text_lines.proofs.Decimals.{tenth, digit_set, first-set}
use Rattle.text_lines.proofs.set_digits.Goals as goal

pub loop-m-init : goal.loop-m-init
loop-m-init c = (refl, search rules, search rules, search rules, refl)

pub loop-m-preserved : goal.loop-m-preserved
loop-m-preserved c =
    let l = c.loop-m in
    let more : 10 ≤ l.m = search rules in
    let less = tenth l.at l.m more l.invariant.3 in (
      simp length-set l.invariant.0,
      omega (arith, less.0),
      search rules,
      less.1,
      digit_set l.line l.at l.m (search rules) (search rules) more ∙ l.invariant.4,
    )

pub returns : goal.returns
returns c =
    let l = c.loop-m in
    (search rules, first-set l.line l.at l.m (search rules) (search rules) (search rules) ∙ l.invariant.4)
