-- Menu writing: its rules, in the order of writers (SCOPE 23.7).
use Rattle.std.specs.Prelude.{List, [], ◌∷◌, ℕ, eqb, ltb, leb, length, get_or}
use Rattle.answer.specs.Rules.{Rule, rule}
use Rattle.menu_forms.specs.Menus.{NI, fits}
use Rattle.menu_forms.specs.Form.{form, opening, menu_in}

-- 13 for a form under nine bytes, or of another length than its counts make; 15 for another kind as soon as the opening is there, and
-- for a menu that can't be sent
unfoldable pub form_rules : List ℕ → List Rule
form_rules f =
    rule (leb opening (length f)) 13 0
    ∷ rule (eqb (get_or f 0 0) NI) 15 0
    ∷ rule (eqb (length f) (length (form (menu_in f)))) 13 0
    ∷ rule (fits (menu_in f)) 15 0
    ∷ []

-- the order of writers: 16, 13, 15
abbrev pub write_rules : ℕ → List ℕ → List Rule
write_rules application f = rule (ltb application 32) 16 0 ∷ form_rules f
