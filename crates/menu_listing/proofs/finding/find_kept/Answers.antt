-- `menu_listing::finding::find_kept` meets its contract: where the shelf has a form, the zeros begin with what is read of it. Assumes nothing.
use mathlib.Core.Path.{◌∙◌, ap}
use mathlib.Core.List.{List}
use Prim.Native.Nat.{ℕ}
use native.Mathlib.Omega.{arith}
use lib.ListN.{take, drop}
use lib.Seq.{sets}
use Rattle.menu_listing.specs.Kept.{form_most}
use Rattle.menu_listing.proofs.Shelves.{none_kept, one_kept}
use Rattle.menu_listing.proofs.finding.find_kept.Goals as goal

pub returns-then-at-eq0 : goal.returns-then-at-eq0
returns-then-at-eq0 c =
    let s = c.args in
    none_kept s.number _ s.heads.now s.shelf.now _ c.find-at.ensures.place (omega (arith, c.if-at-eq0.true))

pub returns : goal.returns
returns c =
    let s = c.args in
    let g : List ℕ = take form_most (drop c.find-at.result s.shelf.now) in
    let f = c.copy.ensures ∙ ap (λ (l : List ℕ). sets l 0 g) c.requires.1 in
    one_kept s.number _ s.heads.now s.shelf.now _ c.find-at.ensures.place c.if-at-eq0.false f
