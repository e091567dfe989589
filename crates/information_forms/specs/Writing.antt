-- Writing Application Information: its rules, in the order of writers (SCOPE 31.6).
use Rattle.std.specs.Prelude.{List, [], ◌∷◌, ℕ, eqb, ltb, leb, length, get_or}
use Rattle.answer.specs.Rules.{Rule, rule}
use Rattle.information_forms.specs.Information.{AI}
use Rattle.information_forms.specs.Form.{form, form_opening, information_in}
use Rattle.information_forms.specs.Kind.{fits}

-- 13 for a form under twenty bytes, or of another length than its counts make; 15 for another kind as soon as the twenty are there, and for
-- information that can't be sent
unfoldable pub form_rules : List ℕ → List Rule
form_rules f =
    rule (leb form_opening (length f)) 13 0
    ∷ rule (eqb (get_or f 0 0) AI) 15 0
    ∷ rule (eqb (length f) (length (form (information_in f)))) 13 0
    ∷ rule (fits (information_in f)) 15 0
    ∷ []

-- the order of writers: 16, 13, 15
abbrev pub write_rules : ℕ → List ℕ → List Rule
write_rules application f = rule (ltb application 32) 16 0 ∷ form_rules f
