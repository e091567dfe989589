-- What the call judges, in its order, what it writes, and which sheet is at fault (SCOPE 28.3, 28.4).
use Rattle.std.specs.Prelude.{List, map, ◌++◌, ℕ}
use Rattle.answer.specs.Answer.{Answer}
use Rattle.answer.specs.Rules.{Rule, judged}
use Rattle.answer.specs.Writing.{answered, left}
use Rattle.forms.specs.Tables.{Table}
use Rattle.sheet_entry.specs.Entries.{Entry}
use Rattle.day_sheet.specs.Calls.{entries_of, rewrite_rules}
use Rattle.changes.specs.Lines.{printed}
use Rattle.sheet_entry.specs.declared.Form.{Form}

-- an entry's table, without its stamp and what was mended
abbrev pub table_of : Entry → Table
table_of e = e.table

module _ (form : Form) where
  -- the first sheet is judged whole, and then the second
  unfoldable pub compare_rules : List ℕ → List ℕ → List Rule
  compare_rules first second = rewrite_rules form first ++ rewrite_rules form second

  unfoldable pub compare_text : List ℕ → List ℕ → List ℕ
  compare_text first second = printed (entries_of form first) (entries_of form second)

  -- what the call answers, and what it leaves in the lent output
  abbrev pub compare_answer : List ℕ → List ℕ → List ℕ → Answer
  compare_answer first second out = answered (compare_rules first second) (compare_text first second) out

  abbrev pub compare_left : List ℕ → List ℕ → List ℕ → List ℕ
  compare_left first second out = left (compare_rules first second) (compare_text first second) out

  -- the number of the sheet at fault: 0 where neither is, whatever the room
  unfoldable pub fault_in : List ℕ → List ℕ → ℕ
  fault_in first second = judged (λ no at. 1) (rewrite_rules form first) (judged (λ no at. 2) (rewrite_rules form second) 0)

  -- the tables of a sheet
  abbrev pub tables_of : List ℕ → List Table
  tables_of sheet = map table_of (entries_of form sheet)
