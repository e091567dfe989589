-- `sheet_joins::judge_size` meets its contract: the two limits, one after the other. Assumes nothing.
use borrow.Author.Rules.{rules}
use mathlib.Core.Path.{◌∙◌}
use native.Mathlib.Omega.{arith}
use Rattle.sheet_joins.proofs.Judged.{sized-many, sized-long, sized-done}
use Rattle.sheet_joins.proofs.judge_size.Goals as goal

pub returns-then-entries-gt-ENTRIES : goal.returns-then-entries-gt-ENTRIES
returns-then-entries-gt-ENTRIES c =
    let a = c.args in
    c.refuse.ensures ∙ sized-many a.form a.entries a.long (search rules)

pub returns-then-limit-long : goal.returns-then-limit-long
returns-then-limit-long c =
    let a = c.args in
    c.refuse-then-limit-long.ensures ∙ sized-long a.form a.entries a.long (search rules) (omega (arith, c.limit.ensures.0, c.if-limit-long.true))

pub returns : goal.returns
returns c =
    let a = c.args in
    sized-done a.form a.entries a.long (search rules) (omega (arith, c.limit.ensures.0, c.if-limit-long.false))
