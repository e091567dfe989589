-- What only the private calls of the moves cite; nothing here needs to be believed.
use Rattle.std.specs.Prelude.{true, ◌≡◌, List, [], ◌∷◌, ℕ, ◌*◌, ◌≤◌, length, drop}
use Rattle.answer.specs.Rules.{Rule, rule}
use Rattle.sheet_entry.specs.declared.Form.{Form}
use Rattle.sheet_entry.specs.declared.Form.TheVariants.{Old, New}
use Rattle.sheet_entry.specs.Entries.{Entry, mended_head, entry_text}
use Rattle.day_sheet.specs.Calls.{short, formed, limited, entries_of}
use Rattle.sheet_moves.specs.Moving.{unmended}
use Rattle.day_sheet.specs.Internal.{Halfway}

-- the rules of a move from a form to a form
unfoldable pub move_rules : Form → Form → List ℕ → List Rule
move_rules from to sheet =
    short from sheet ∷ formed from sheet ∷ rule (unmended (entries_of from sheet)) 25 0 ∷ limited to (entries_of from sheet)

-- the line of the number 0, which the old form doesn't have
abbrev pub mark_text : Form → List ℕ
mark_text form = (mended_head form).text 0

-- how many bytes it takes of so many entries
abbrev pub marks_of : Form → ℕ → ℕ
marks_of Old n = 0
marks_of New n = 9 * n

-- the text of the first entry
unfoldable pub front_text : Form → List Entry → List ℕ
front_text form [] = []
front_text form (e ∷ es) = entry_text form e

-- a place in a sheet from which on it is in form and has no number but 0
pub record Plainly (form : Form) (sheet : List ℕ) (at : ℕ) : Type 0 where
  pub halfway : Halfway form sheet at
  pub zeros : unmended (entries_of form (drop at sheet)) ≡ true

-- an entry stands there, so long
pub record Stood (form : Form) (sheet : List ℕ) (at long : ℕ) : Type 0 where
  pub plainly : Plainly form sheet at
  pub is_long : long ≡ length (front_text form (entries_of form (drop at sheet)))
  pub some : 1 ≤ long
