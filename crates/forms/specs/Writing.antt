-- Block writing: its rules, in the order of writers (SCOPE 3.7, 22.2).
use Rattle.std.specs.Prelude.{Bool, List, [], ◌∷◌, ℕ, eqb, ltb, leb, length, get_or}
use Rattle.laws.specs.Pick.{either}
use Rattle.answer.specs.Rules.{Rule, rule}
use Rattle.forms.specs.Tables.{known, numbered, fits}
use Rattle.forms.specs.Form.{form, opening, table_in}

-- a form that is too short to hold a block number, or holds one of this edition
abbrev pub form_numbered : List ℕ → Bool
form_numbered f = either (ltb (length f) 4) (numbered (table_in f).block)

-- 22 for a block number of another edition, whatever else is wrong (SCOPE 22.2); 13 for a form under six bytes, or of another length than its
-- counts make (SCOPE 12.12); 15 for a value that doesn't fit its field, and for another kind as soon as the opening is there, since such a form
-- can't be measured
unfoldable pub form_rules : List ℕ → List Rule
form_rules f =
    rule (form_numbered f) 22 0
    ∷ rule (leb opening (length f)) 13 0
    ∷ rule (known (get_or f 0 0)) 15 0
    ∷ rule (eqb (length f) (length (form (table_in f)))) 13 0
    ∷ rule (fits (table_in f)) 15 0
    ∷ []

-- the order of writers: 16, 22, 13, 15
abbrev pub write_rules : ℕ → List ℕ → List Rule
write_rules application f = rule (ltb application 32) 16 0 ∷ form_rules f
