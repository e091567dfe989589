-- `menu_writer::loops::descriptor_fine` meets its contract: its tests in order. Assumes nothing.
use borrow.Author.Rules.{rules}
use mathlib.Core.Path.{◌∙◌, sym}
use Rattle.menu_writer.proofs.Entries.{descriptor-fits}
use Rattle.menu_writer.proofs.loops.descriptor_fine.Goals as goal

pub returns-then-id-lt64 : goal.returns-then-id-lt64
returns-then-id-lt64 c =
    let a = c.args in
    search rules ∙ sym (descriptor-fits a.form.now a.at _ _ _ c.byte_at-which.ensures.0 c.byte_at-id.ensures.0 c.byte_at-eval.ensures.0)

pub returns-else-id-lt64 : goal.returns-else-id-lt64
returns-else-id-lt64 c =
    let a = c.args in
    search rules ∙ sym (descriptor-fits a.form.now a.at _ _ _ c.byte_at-which.ensures.0 c.byte_at-id.ensures.0 c.byte_at-eval.ensures.0)
