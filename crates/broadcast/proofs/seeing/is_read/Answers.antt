-- `broadcast::seeing::is_read` meets its contract: by the kind, what reading says that is lent no room. Assumes nothing.
use mathlib.Core.Path.{◌∙◌, sym, ap}
use native.Mathlib.Omega.{arith}
use lib.ListN.{drop}
use Rattle.blocks.specs.Block.{head_length}
use Rattle.forms.specs.Form.{form as table_form}
use Rattle.blocks.specs.Parts.{mended_in}
use Rattle.table.specs.Reading.{read_rules as table_rules, table_read}
use Rattle.menu_forms.specs.Form.{form as menu_form}
use Rattle.menu_reader.specs.Reading.{read_rules as menu_rules, menu_read, mended_control as menu_mended}
use Rattle.information_forms.specs.Form.{form as information_form}
use Rattle.information.specs.Reading.{read_rules as information_rules, information_read, mended_control as information_mended}
use Rattle.broadcast.specs.Internal.{is_accepted}
use Rattle.broadcast.proofs.Accepting.{accepted-bare, table-others, menu-others, information-others}
use Rattle.broadcast.proofs.Counted.{is-information, is-menu, is-table, is-another}
use Rattle.broadcast.proofs.seeing.is_read.Goals as goal

pub returns-in-1 : goal.returns-in-1
returns-in-1 c =
    let s = c.args in
    c.is_accepted.ensures
    ∙ ap is_accepted c.read_information.ensures.answer
    ∙ accepted-bare (information_rules s.application s.rec.now) (information_form (information_read (drop head_length s.rec.now))) (information_mended s.rec.now) (information-others s.application s.rec.now)
    ∙ is-information s.application s.kind s.rec.now c.in-1.is

pub returns-in-3 : goal.returns-in-3
returns-in-3 c =
    let s = c.args in
    c.is_accepted-in-3.ensures
    ∙ ap is_accepted c.read_menu.ensures.answer
    ∙ accepted-bare (menu_rules s.application s.rec.now) (menu_form (menu_read (drop head_length s.rec.now))) (menu_mended s.rec.now) (menu-others s.application s.rec.now)
    ∙ is-menu s.application s.kind s.rec.now (λ e. absurd (omega (arith, c.in-3.is, e))) c.in-3.is

pub returns-in_default : goal.returns-in_default
returns-in_default c =
    let s = c.args in
    c.is_accepted-in_default.ensures
    ∙ ap is_accepted c.read_block.ensures.answer
    ∙ accepted-bare (table_rules s.application s.rec.now) (table_form (table_read s.rec.now)) (mended_in s.rec.now) (table-others s.application s.rec.now)
    ∙ is-table s.application s.kind s.rec.now (λ e. absurd (omega (arith, e))) (λ e. absurd (omega (arith, e)))
    (sym c.known.ensures ∙ c.if-known.true)

pub returns-in_default-2 : goal.returns-in_default-2
returns-in_default-2 c =
    let s = c.args in
    is-another s.application s.kind s.rec.now (λ e. absurd (omega (arith, e))) (λ e. absurd (omega (arith, e)))
    (sym c.known.ensures ∙ c.if-known.false)
