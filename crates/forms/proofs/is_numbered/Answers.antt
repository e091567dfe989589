-- `forms::is_numbered` meets its contract: a form too short to hold a number, or its number. Assumes nothing.
use mathlib.Core.Path.{◌∙◌}
use native.Mathlib.Omega.{arith}
use Rattle.forms.proofs.Forms.{numbered_in}
use Rattle.forms.proofs.is_numbered.Goals as goal

pub returns-else-table-lt4 : goal.returns-else-table-lt4
returns-else-table-lt4 c =
    let a = c.byte_at in
    let b = c.byte_at-else-table-lt4 in
    c.numbered.ensures
    ∙ numbered_in c.args.table.now a.result b.result (omega arith) a.ensures.0 b.ensures.0 a.ensures.1 b.ensures.1
