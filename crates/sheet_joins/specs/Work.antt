-- Sheets joined and tables added, mixed as somebody chose to (SCOPE 25): the calls one on what others wrote, and the customer's premise.
use Rattle.std.specs.Prelude.{List, [], ◌∷◌, ◌++◌, ℕ, ◌+◌, ◌≤◌, length}
use Rattle.laws.specs.Each.{Each}
use Rattle.sheet_entry.specs.Entries.{Entry, key_of, stamp_most}
use Rattle.day_sheet.specs.Entries.{entry_limit, byte_limit}
use Rattle.day_sheet.specs.Calls.{entries_of}
use Rattle.day_sheet.specs.Reading.{InForm}
use Rattle.sheet_joins.specs.AnyOrder.{Joins, Captured, sheet_of_one, Adds, Takes}
use Rattle.sheet_entry.specs.declared.Form.{Form}

-- ---- how they come together

-- a sheet as it stands; two such joined; a table added to one
pub data Work : Type 0 where
  stands : List ℕ → Work
  join : Work → Work → Work
  add : Work → Captured → Work

-- its sheets, from left to right, a table as the sheet of its one entry
unfoldable pub sheets_of : Form → Work → List (List ℕ)
sheets_of form (stands sheet) = sheet ∷ []
sheets_of form (join v w) = sheets_of form v ++ sheets_of form w
sheets_of form (add w c) = sheets_of form w ++ (sheet_of_one form c ∷ [])

-- every call of it is accepted, and this is the sheet that the last one writes
pub data Wrote (form : Form) : Work → List ℕ → Type 0 where
  stood : (sheet : List ℕ) → Wrote form (stands sheet) sheet
  joined : {v w : Work} {a b sheet : List ℕ} → Wrote form v a → Wrote form w b → Joins form a b sheet → Wrote form (join v w) sheet
  added : {w : Work} {c : Captured} {a sheet : List ℕ} → Wrote form w a → c.stamp ≤ stamp_most → Adds form a c sheet → Wrote form (add w c) sheet

-- what is there before the calls: sheets in form, tables that block writing takes, stamps within their range
pub data Ready (form : Form) : Work → Type 0 where
  in_form : {sheet : List ℕ} → InForm form sheet → Ready form (stands sheet)
  each : {v w : Work} → Ready form v → Ready form w → Ready form (join v w)
  takes : {w : Work} {c : Captured} → Ready form w → Takes form c → Ready form (add w c)

-- ---- the same sheets

-- one of them
pub data In {B : Type 0} (x : B) : List B → Type 0 where
  here : {xs : List B} → In x (x ∷ xs)
  there : {y : B} {xs : List B} → In x xs → In x (y ∷ xs)

-- in whatever order and however often
pub record Same {B : Type 0} (xs ys : List B) : Type 0 where
  pub first : Each (λ (x : B). In x ys) xs
  pub second : Each (λ (y : B). In y xs) ys

-- ---- the premise in the customer's words

-- the bytes of all the sheets
unfoldable pub bytes_of : List (List ℕ) → ℕ
bytes_of [] = 0
bytes_of (sheet ∷ sheets) = length sheet + bytes_of sheets

-- the sheets together have at most 64 keys and as many bytes as the form's limit
pub record AllTogether (form : Form) (sheets : List (List ℕ)) : Type 0 where
  pub keys : List ℕ
  pub have : Each (λ (sheet : List ℕ). Each (λ (e : Entry). In (key_of e) keys) (entries_of form sheet)) sheets
  pub few : length keys ≤ entry_limit
  pub short : bytes_of sheets ≤ byte_limit form
