-- The listing of a menu out of a list of records: SCOPE 23.8.
use Rattle.std.specs.Prelude.{Bool, true, false, List, [], ◌∷◌, ◌++◌, ℕ, zero, suc, ◌-◌, eqb, leb, ltb}
use Rattle.laws.specs.Pick.{pick, both}
use Rattle.answer.specs.Rules.{Rule, rule, judged}
use Rattle.blocks.specs.Block.{Block, record_of, whole, blocks}
use Rattle.menu_forms.specs.Menus.{Menu}
use Rattle.menu_reader.specs.Reading.{read_rules, menu_read}
use Rattle.text_lines.specs.Lines.{number_line}
use Rattle.menu_listing.specs.Lines.{deeper_name, menu_lines}

-- every rule holds
abbrev pub holding : List Rule → Bool
holding rules = judged (λ number offset. false) rules true

-- the record of a block is accepted as a menu of this application, and the menu has this number
unfoldable pub is_menu : ℕ → ℕ → Block → Bool
is_menu application number b =
    both (holding (read_rules application (record_of b))) (eqb (menu_read b.raw).block number)

-- the menus with this number, in the order of their blocks; blocks that aren't accepted are passed over
unfoldable pub menus_of : ℕ → ℕ → List Block → List Menu
menus_of application number [] = []
menus_of application number (b ∷ bs) =
    pick (is_menu application number b) (menu_read b.raw ∷ []) [] ++ menus_of application number bs

-- the greatest number of levels that can be asked for, and that of `list_menu`
abbrev pub levels_most : ℕ
levels_most = 8

-- the lines of the menu with this number and of those that it leads to, where so many of the levels that are asked for are left, the first of
-- all being 1; where none is left, that it lies deeper
unfoldable pub lines_of : (ℕ → List Menu) → ℕ → ℕ → ℕ → List ℕ
lines_of menus levels zero number = number_line deeper_name number
lines_of menus levels (suc left) number = menu_lines (lines_of menus levels left) (levels - left) number (menus number)

-- the listing: from level 1 on, down to so many levels
unfoldable pub listing : ℕ → ℕ → ℕ → List ℕ → List ℕ
listing application number levels records = lines_of (λ n. menus_of application n (blocks records)) levels levels number

-- that of `list_menu`
abbrev pub full_listing : ℕ → ℕ → List ℕ → List ℕ
full_listing application number records = listing application number levels_most records

-- 1 to 8 levels can be asked for
abbrev pub are_levels : ℕ → Bool
are_levels levels = both (leb 1 levels) (leb levels levels_most)

-- 16 for the application, 13 for a list that isn't whole records
abbrev pub list_rules : ℕ → List ℕ → List Rule
list_rules application records = rule (ltb application 32) 16 0 ∷ rule (whole records) 13 0 ∷ []

-- 16 for the levels too, between the two
abbrev pub levels_rules : ℕ → ℕ → List ℕ → List Rule
levels_rules application levels records =
    rule (ltb application 32) 16 0 ∷ rule (are_levels levels) 16 0 ∷ rule (whole records) 13 0 ∷ []
