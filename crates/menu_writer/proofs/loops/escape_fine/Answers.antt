-- `menu_writer::loops::escape_fine` meets its contract: its tests in order. Assumes nothing.
use borrow.Author.Rules.{rules}
use mathlib.Core.Path.{◌∙◌, sym}
use Rattle.menu_writer.proofs.Entries.{escape_fits}
use Rattle.menu_writer.proofs.loops.escape_fine.Goals as goal

pub returns-then-mode-lt64 : goal.returns-then-mode-lt64
returns-then-mode-lt64 c =
    let a = c.args in
    let x = c.byte_at in
    let y = c.byte_at-2 in
    search rules
    ∙ sym (escape_fits a.form.now a.at _ _ _ _ x.ensures.0 y.ensures.0 c.byte_at-mode.ensures.0 c.byte_at-content.ensures.0 x.ensures.1 y.ensures.1)

pub returns-else-mode-lt64 : goal.returns-else-mode-lt64
returns-else-mode-lt64 c =
    let a = c.args in
    let x = c.byte_at in
    let y = c.byte_at-2 in
    search rules
    ∙ sym (escape_fits a.form.now a.at _ _ _ _ x.ensures.0 y.ensures.0 c.byte_at-mode.ensures.0 c.byte_at-content.ensures.0 x.ensures.1 y.ensures.1)
