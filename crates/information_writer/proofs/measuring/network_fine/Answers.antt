-- `information_writer::measuring::network_fine` meets its contract: its tests in order. Assumes nothing.
use borrow.Author.Rules.{rules}
use mathlib.Core.Path.{◌∙◌, sym, ap}
use native.Mathlib.Omega.{arith}
use Rattle.laws.specs.Pick.{both}
use Rattle.information_writer.proofs.Listed.{network_fits}
use Rattle.information_writer.proofs.measuring.network_fine.Goals as goal

pub returns-then-row_fine : goal.returns-then-row_fine
returns-then-row_fine c =
    let a = c.args in
    search rules ∙ sym (ap (both a.before) (network_fits a.form.now a.at a.name c.requires.1 (omega arith)))

pub returns-else-row_fine : goal.returns-else-row_fine
returns-else-row_fine c =
    let a = c.args in
    search rules ∙ sym (ap (both a.before) (network_fits a.form.now a.at a.name c.requires.1 (omega arith)))
