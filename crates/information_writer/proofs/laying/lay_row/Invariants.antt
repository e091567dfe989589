-- `information_writer::laying::lay_row` meets its contract: what is left from here makes all of the row. Assumes nothing.
use mathlib.Core.Path.{◌≡◌}
use Prim.Native.Nat.{◌+◌, ◌*◌, ◌≤◌}
use lib.ListN.{drop}
use Rattle.fields.specs.Pens.{inked, moved, Fine}
use Rattle.information_writer.specs.Internal.{row_at}
use Rattle.information_writer.proofs.laying.lay_row.Given as goal

abbrev pub invariant-loop-i : goal.invariant-loop-i
invariant-loop-i l =
    let here = row_at (drop l.i l.widths) l.q l.form in
    let all = row_at l.widths l.at l.form in
    Fine l.p × (l.q ≤ l.at + 3 * l.i) × (moved l.p here ≡ moved l.initial.p all)
    × (inked l.p here l.out ≡ inked l.initial.p all l.initial.out)
