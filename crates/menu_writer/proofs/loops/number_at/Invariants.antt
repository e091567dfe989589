-- `menu_writer::loops::number_at` meets its contract: one byte on is one step of the number. Assumes nothing.
use mathlib.Core.Path.{◌≡◌}
use lib.ListN.{drop}
use Rattle.menu_forms.specs.Form.{number_in}
use Rattle.menu_writer.proofs.loops.number_at.Given as goal

abbrev pub invariant-loop-i : goal.invariant-loop-i
invariant-loop-i l = l.n ≡ number_in l.i (drop l.at l.form)
