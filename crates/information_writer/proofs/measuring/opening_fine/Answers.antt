-- `information_writer::measuring::opening_fine` meets its contract: its tests in order. Assumes nothing.
use borrow.Author.Rules.{rules}
use mathlib.Core.Path.{◌∙◌, sym}
use native.Mathlib.Omega.{arith}
use Rattle.information_writer.proofs.Listed.{opening_fits}
use Rattle.information_writer.proofs.measuring.opening_fine.Goals as goal

pub returns-then-row_fine : goal.returns-then-row_fine
returns-then-row_fine c =
    search rules ∙ sym (opening_fits c.args.form.now c.args.name c.requires.0 (omega arith))

pub returns-else-row_fine : goal.returns-else-row_fine
returns-else-row_fine c =
    search rules ∙ sym (opening_fits c.args.form.now c.args.name c.requires.0 (omega arith))
