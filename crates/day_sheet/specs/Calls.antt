-- What the calls judge, in their order (SCOPE 20.9, 30.3), and what they write, in a form.
use Rattle.std.specs.Prelude.{List, [], ◌∷◌, ℕ, leb, length}
use Rattle.answer.specs.Rules.{Rule, rule}
use Rattle.sheet_entry.specs.Entries.{Entry}
use Rattle.day_sheet.specs.Entries.{sheet_text, entry_limit, byte_limit}
use Rattle.day_sheet.specs.Reading.{sheet_of}
use Rattle.day_sheet.specs.Dropping.{without}
use Rattle.sheet_entry.specs.declared.Form.{Form}

module _ (form : Form) where
  -- 21: a lent sheet that is too long to be one
  abbrev pub short : List ℕ → Rule
  short sheet = rule (leb (length sheet) (byte_limit form)) 21 0

  -- 20: a line out of form or order, at its first byte
  abbrev pub formed : List ℕ → Rule
  formed sheet = rule (sheet_of form sheet).fine 20 (sheet_of form sheet).long

  -- 21: a result of too many entries or bytes
  abbrev pub limited : List Entry → List Rule
  limited es = rule (leb (length es) entry_limit) 21 0 ∷ rule (leb (length (sheet_text form es)) (byte_limit form)) 21 0 ∷ []

  -- the entries of a sheet in form
  abbrev pub entries_of : List ℕ → List Entry
  entries_of sheet = (sheet_of form sheet).items

  -- ---- count

  abbrev pub count_rules : List ℕ → List Rule
  count_rules sheet = short sheet ∷ formed sheet ∷ []

  -- ---- rewrite

  unfoldable pub rewrite_rules : List ℕ → List Rule
  rewrite_rules sheet = short sheet ∷ formed sheet ∷ limited (entries_of sheet)

  unfoldable pub rewritten : List ℕ → List ℕ
  rewritten sheet = sheet_text form (entries_of sheet)

  -- ---- drop

  unfoldable pub drop_result : ℕ → ℕ → ℕ → List ℕ → List Entry
  drop_result network kind block sheet = without network kind block (entries_of sheet)

  unfoldable pub drop_rules : ℕ → ℕ → ℕ → List ℕ → List Rule
  drop_rules network kind block sheet = short sheet ∷ formed sheet ∷ limited (drop_result network kind block sheet)
