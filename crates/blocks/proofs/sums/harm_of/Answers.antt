-- `blocks::sums::harm_of` meets its contract: a byte has no harm exactly where all its checks hold. Assumes nothing.
use borrow.Author.Rules.{rules}
use borrow.Author.Tests.{eq-eqb, ne_eqb}
use mathlib.Core.Bool.{Bool}
use mathlib.Core.Path.{◌∙◌, sym, ap}
use Prim.Native.Nat.{ℕ}
use Rattle.laws.specs.Pick.{pick}
use Rattle.blocks.proofs.sums.harm_of.Goals as goal

-- 0 or 1 by a test
of : Bool → ℕ
of t = pick t 0 1

pub returns-then-checks-eq0 : goal.returns-then-checks-eq0
unfolding of
returns-then-checks-eq0 c = (sym (c.checks.ensures ∙ ap of (eq-eqb _ 0 c.if-checks-eq0.true)), search rules)

pub returns-else-checks-eq0 : goal.returns-else-checks-eq0
unfolding of
returns-else-checks-eq0 c = (sym (c.checks.ensures ∙ ap of (ne_eqb _ 0 c.if-checks-eq0.false)), search rules)
