-- The moves between the two forms (SCOPE 30.6): the same entries, written in the other one. What the calls judge, in their order.
use Rattle.std.specs.Prelude.{Bool, true, List, [], ◌∷◌, ℕ, eqb, leb, length}
use Rattle.laws.specs.Pick.{both}
use Rattle.answer.specs.Rules.{Rule, rule}
use Rattle.sheet_entry.specs.declared.Form.TheVariants.{Old, New}
use Rattle.sheet_entry.specs.Entries.{Entry}
use Rattle.day_sheet.specs.Entries.{sheet_text, entry_limit}
use Rattle.day_sheet.specs.Calls.{short, formed, limited, entries_of}

-- whether every entry has the number 0, so that none is lost where it can't be said
unfoldable pub unmended : List Entry → Bool
unmended [] = true
unmended (e ∷ es) = both (eqb e.mended 0) (unmended es)

-- ---- up: each entry with `mended=0`

-- 64 entries of an old sheet are within the new limit, so no result is too long
unfoldable pub up_rules : List ℕ → List Rule
up_rules old = short Old old ∷ formed Old old ∷ rule (leb (length (entries_of Old old)) entry_limit) 21 0 ∷ []

unfoldable pub up_text : List ℕ → List ℕ
up_text old = sheet_text New (entries_of Old old)

-- ---- down: each entry without its number

-- 25: a number that would be lost
unfoldable pub down_rules : List ℕ → List Rule
down_rules new = short New new ∷ formed New new ∷ rule (unmended (entries_of New new)) 25 0 ∷ limited Old (entries_of New new)

unfoldable pub down_text : List ℕ → List ℕ
down_text new = sheet_text Old (entries_of New new)
