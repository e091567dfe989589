-- `words::options::is_in` meets its contract: its tests in order. Assumes nothing.
use mathlib.Core.Path.{◌∙◌}
use native.Mathlib.Omega.{arith}
use borrow.Author.Tests.{leb-true}
use Rattle.words.proofs.Setting.{untrue, out-of-options, below-least, from-least}
use Rattle.words.proofs.options.is_in.Goals as goal

pub returns-then-k-ge-OPTIONS : goal.returns-then-k-ge-OPTIONS
returns-then-k-ge-OPTIONS c = (out-of-options _ _ _ c.if-k-ge-OPTIONS.true, λ e. untrue e)

pub returns-then-number-least : goal.returns-then-number-least
returns-then-number-least c = (below-least _ _ _ c.if-k-ge-OPTIONS.false (c.wide-least.ensures.0 ∙ c.entry.ensures) c.if-number-least.true, λ e. untrue e)

pub returns : goal.returns
returns c = (from-least _ _ _ c.if-k-ge-OPTIONS.false (c.wide-least.ensures.0 ∙ c.entry.ensures) c.if-number-least.false (c.wide-most.ensures.0 ∙ c.entry-2.ensures), λ e. (omega arith, omega (arith, leb-true c.args.number c.wide-most.result e)))
