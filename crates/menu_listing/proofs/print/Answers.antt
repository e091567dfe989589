-- `menu_listing::print` meets its contract: the walk that measures and the walk that writes put the same text. Assumes nothing.
use mathlib.Core.List.{List, []}
use mathlib.Core.Path.{◌∙◌, refl, ap}
use Prim.Native.Nat.{ℕ}
use native.Mathlib.Nat.{zero-add}
use native.Mathlib.Omega.{arith}
use Rattle.std.specs.declared.result.Result.TheVariants.{Ok}
use Rattle.answer.proofs.Lent.{lent-short, lent-done}
use Rattle.menu_listing.specs.Listing.{lines_of}
use Rattle.menu_listing.specs.Internal.{menus_from}
use Rattle.menu_listing.proofs.Pens.{penned_as, too_long, fits_in, put_whole}
use Rattle.menu_listing.proofs.Walks.{level_down}
use Rattle.menu_listing.proofs.print.Goals as goal

pub returns-then-room-need : goal.returns-then-room-need
returns-then-room-need c =
    let s = c.args in
    let menus = menus_from s.source s.list.now s.heads.now in
    let text : List ℕ = lines_of menus s.levels s.levels s.number in
    let e = level_down menus s.levels s.levels s.number (λ z. omega arith) in
    let long = too_long (penned_as e c.walk_menu-need.ensures.0) (omega (arith, c.if-room-need.true)) in
    let p = lent-short [] text s.out.now 0 refl refl long in
    record {
      answer = c.refuse.ensures ∙ p.0;
      output = p.1;
    }

pub returns : goal.returns
returns c =
    let s = c.args in
    let menus = menus_from s.source s.list.now s.heads.now in
    let text : List ℕ = lines_of menus s.levels s.levels s.number in
    let e = level_down menus s.levels s.levels s.number (λ z. omega arith) in
    let measured = penned_as e c.walk_menu-need.ensures.0 in
    let fits = fits_in measured (omega (arith, c.if-room-need.false)) in
    let d = put_whole (penned_as e c.walk_menu-written.ensures.0) fits in
    let p = lent-done [] text s.out.now 0 refl refl fits in
    record {
      answer = ap Ok (d.moved ∙ zero-add _) ∙ p.0;
      output = d.stored ∙ p.1;
    }
