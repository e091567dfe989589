-- `sheet_joins::second_stays` meets its contract: by the stamps; the parts that are compared are the table's lines. Assumes nothing.
use mathlib.Core.Path.{◌∙◌}
use lib.ListN.{drop}
use Rattle.std.specs.declared.cmp.Ordering.TheVariants.{Less, Equal, Greater}
use Rattle.std.proofs.lemmas.Cmp.{ranked}
use Rattle.sheet_joins.proofs.Turning.{stays-less, stays-more, stays_same, lines_part}
use Rattle.sheet_joins.proofs.second_stays.Goals as goal

pub returns-in-Less : goal.returns-in-Less
returns-in-Less c =
    let a = c.args in
    stays-less (drop a.i a.first.now) a.a (drop a.j a.second.now) a.b (ranked _ _ Less c.in-Less.ensures)

pub returns-in-Greater : goal.returns-in-Greater
returns-in-Greater c =
    let a = c.args in
    stays-more (drop a.i a.first.now) a.a (drop a.j a.second.now) a.b (ranked _ _ Greater c.in-Greater.ensures)

pub returns-in-Equal : goal.returns-in-Equal
returns-in-Equal c =
    let a = c.args in
    c.lines_stay.ensures
    ∙ (rw (lines_part a.first.now a.i a.a c.requires.0, lines_part a.second.now a.j a.b c.requires.1)
    (stays_same (drop a.i a.first.now) a.a (drop a.j a.second.now) a.b (ranked _ _ Equal c.in-Equal.ensures)))
