-- The listing of a menu out of a shelf: SCOPE 23.9.
use Rattle.std.specs.Prelude.{◌≡◌, List, [], ◌∷◌, ◌++◌, ℕ, eqb, take, drop, replicate}
use Rattle.laws.specs.Pick.{pick}
use Rattle.answer.specs.Rules.{Rule, rule}
use Rattle.blocks.specs.Block.{blocks}
use Rattle.menu_forms.specs.Menus.{Menu}
use Rattle.menu_forms.specs.Form.{form, menu_in}
use Rattle.shelf.specs.Shelf.{place_of}
use Rattle.menu_listing.specs.Listing.{menus_of, are_levels, lines_of}

-- so many bytes of a form are read: no block's form is longer
abbrev pub form_most : ℕ
form_most = 2047

-- what is read of the form at a place of the shelf: past the shelf's end it is 0
unfoldable pub form_at : ℕ → List ℕ → List ℕ
form_at place shelf = take form_most (drop place shelf ++ replicate form_most 0)

-- the menu with this number, where the shelf has one: that which its form stands for
unfoldable pub kept_menus : List ℕ → List ℕ → ℕ → List Menu
kept_menus heads shelf number =
    pick (eqb (place_of number heads shelf) 0) [] (menu_in (form_at (place_of number heads shelf) shelf) ∷ [])

-- the listing with these menus in place of those of a list
unfoldable pub kept_listing : ℕ → ℕ → List ℕ → List ℕ → List ℕ
kept_listing number levels heads shelf = lines_of (kept_menus heads shelf) levels levels number

-- 16 for the levels
abbrev pub kept_rules : ℕ → List Rule
kept_rules levels = rule (are_levels levels) 16 0 ∷ []

-- ---- a shelf that holds the menus of a list

-- at a place of the shelf stands the form of the first of these menus; where there is none, the place is 0
pub data HasAt (shelf : List ℕ) : List Menu → ℕ → Type 0 where
  none : HasAt shelf [] 0
  first : {m : Menu} {ms : List Menu} {place : ℕ} (rest : List ℕ) → (place ≡ 0 → ⊥) → drop place shelf ≡ form m ++ rest → HasAt shelf (m ∷ ms) place

-- under each number the shelf has the first menu with it of the list, and none where the list has none
abbrev pub Holds : ℕ → List ℕ → List ℕ → List ℕ → Type 0
Holds application records heads shelf =
    (number : ℕ) → HasAt shelf (menus_of application number (blocks records)) (place_of number heads shelf)
