-- `menu_listing::finding::find_form` meets its contract: each source's own search. Assumes nothing.
use mathlib.Core.Path.{◌∙◌, sym, ap, subst}
use Prim.Native.Nat.{ℕ}
use lib.ListN.{length, length-replicate}
use Rattle.menu_listing.specs.Kept.{form_most}
use Rattle.menu_listing.specs.Internal.{Held, menus_from}
use Rattle.menu_listing.specs.declared.Source.{Source}
use Rattle.menu_listing.proofs.finding.find_form.Goals as goal

pub find_menu-requires : goal.find_menu-requires
find_menu-requires c = ap length c.requires.1 ∙ length-replicate {A = ℕ} form_most 0

pub returns-in-Records : goal.returns-in-Records
returns-in-Records c =
    let s = c.args in
    let w = c.find_menu in
    subst (λ (x : Source). Held (menus_from x s.list.now s.heads.now s.number) w.new.form w.result) (sym c.in-Records.is) w.ensures

pub returns-in-Shelf : goal.returns-in-Shelf
returns-in-Shelf c =
    let s = c.args in
    let w = c.find_kept in
    subst (λ (x : Source). Held (menus_from x s.list.now s.heads.now s.number) w.new.form w.result) (sym c.in-Shelf.is) w.ensures
