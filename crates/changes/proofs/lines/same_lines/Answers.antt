-- `changes::lines::same_lines` meets its contract: the parts that are compared are the tables' lines. Assumes nothing.
use mathlib.Core.Path.{◌∙◌}
use Rattle.sheet_joins.proofs.Turning.{lines_part}
use Rattle.changes.proofs.lines.same_lines.Goals as goal

pub returns : goal.returns
returns c =
    let a = c.args in
    c.same.ensures ∙ (rw (lines_part a.first.now a.i a.a c.requires.0, lines_part a.second.now a.j a.b c.requires.1))
