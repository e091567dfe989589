-- The day sheet's calls as their contracts have them (claims/specs/Calls says how), and sheets joined and tables added by such calls.
use Rattle.std.specs.declared.result.Result.TheVariants.{Ok}
use Rattle.std.specs.Prelude.{◌≡◌, List, [], ◌∷◌, ◌++◌, ℕ, ◌≤◌, length}
use Rattle.answer.specs.Answer.{Answer}
use Rattle.sheet_entry.specs.declared.Form.{Form}
use Rattle.sheet_entry.specs.declared.Form.TheVariants.{Old, New}
use Rattle.text_lines.specs.Lines.{number_line}
use Rattle.sheet_entry.specs.Entries.{Entry, stamp_name, stamp_most}
use Rattle.sheet_joins.specs.AnyOrder.{Captured}
use Rattle.sheet_joins.specs.Work.{Work, stands, join, add}
use Rattle.day_sheet.proofs.rewrite.Reads as day_sheet-rewrite
use Rattle.sheet_joins.proofs.join.Reads as sheet_joins-join
use Rattle.sheet_joins.proofs.adding.add.Reads as sheet_joins-add
use Rattle.day_sheet.proofs.dropping.drop.Reads as day_sheet-drop
use Rattle.changes.specs.declared.Compared.{Compared}
use Rattle.changes.proofs.compare.Reads as changes-compare
use Rattle.texts.proofs.entries.Reads as texts-entries
use Rattle.claims.specs.Calls.{reported}

-- ---- each call

-- form, sheet and lent output; the answer, and the output afterwards
pub data Rewrites : Form → List ℕ → List ℕ → Answer → List ℕ → Type 0 where
  rewrite-sheet :
      (κs : _) (a : _) (x : _) (t : _) → day_sheet-rewrite.Post κs a x t
      → Rewrites a.0 a.1.0.now a.1.1.0.now x t.1.1.0.now

-- form, two sheets and lent output; the answer, and the output afterwards
pub data JoinsSheets : Form → List ℕ → List ℕ → List ℕ → Answer → List ℕ → Type 0 where
  join-sheets :
      (κs : _) (a : _) (x : _) (t : _) → sheet_joins-join.Post κs a x t
      → JoinsSheets a.0 a.1.0.now a.1.1.0.now a.1.1.1.0.now x t.1.1.1.0.now

-- form, stamp, what was mended, sheet, table form and lent output; the answer, and the output afterwards
pub data AddsTable : Form → ℕ → ℕ → List ℕ → List ℕ → List ℕ → Answer → List ℕ → Type 0 where
  add-table :
      (κs : _) (a : _) (x : _) (t : _) → sheet_joins-add.Post κs a x t
      → AddsTable a.0 a.1.0 a.1.1.0 a.1.1.1.0.now a.1.1.1.1.0.now a.1.1.1.1.1.0.now x t.1.1.1.1.1.0.now

-- form, network, kind, block, sheet and lent output; the answer, and the output afterwards
pub data DropsEntry : Form → ℕ → ℕ → ℕ → List ℕ → List ℕ → Answer → List ℕ → Type 0 where
  drop-entry :
      (κs : _) (a : _) (x : _) (t : _) → day_sheet-drop.Post κs a x t
      → DropsEntry a.0 a.1.0 a.1.1.0 a.1.1.1.0 a.1.1.1.1.0.now a.1.1.1.1.1.0.now x t.1.1.1.1.1.0.now

-- form, two sheets and lent output; the answer with the number of the sheet at fault, and the output afterwards
pub data ComparesSheets : Form → List ℕ → List ℕ → List ℕ → Compared → List ℕ → Type 0 where
  compare-sheets :
      (κs : _) (a : _) (x : _) (t : _) → changes-compare.Post κs a x t
      → ComparesSheets a.0 a.1.0.now a.1.1.0.now a.1.1.1.0.now x t.1.1.1.0.now

-- a text, and the number that comes back
pub data Counts : List ℕ → ℕ → Type 0 where
  count_entries : (κs : _) (a : _) (x : _) (t : _) → texts-entries.Post κs a x t → Counts a.0.now x

-- the call was accepted
abbrev pub Accepted : Answer → Type 0
Accepted x = (n : ℕ) × (x ≡ Ok n)

-- ---- the other form

abbrev pub other : Form → Form
other Old = New
other New = Old

-- how long an entry's line `stamp=` is: the line behind it is `mended=` in the new form and `kind=` in the old one
abbrev pub behind_stamp : Entry → ℕ
behind_stamp e = length (number_line stamp_name e.stamp)

-- ---- calls one on what others wrote

-- sheets of one form joined and tables added, each call with a lent output of at least so many bytes, and what it reports as written handed on: the
-- answers in the order of the calls, and what the last one reports
pub data Called (form : Form) (least : ℕ) : Work → List Answer → List ℕ → Type 0 where
  none : (sheet : List ℕ) → Called form least (stands sheet) [] sheet
  joins :
      {v w : Work} {xs ys : List Answer} {a b old out : List ℕ} {x : Answer}
      → Called form least v xs a → Called form least w ys b → least ≤ length old → JoinsSheets form a b old x out
      → Called form least (join v w) (xs ++ (ys ++ (x ∷ []))) (reported x out)
  -- a stamp has 32 bits
  adds :
      {w : Work} {c : Captured} {xs : List Answer} {a old out : List ℕ} {x : Answer}
      → Called form least w xs a → c.stamp ≤ stamp_most → least ≤ length old → AddsTable form c.stamp c.mended a c.table old x out
      → Called form least (add w c) (xs ++ (x ∷ [])) (reported x out)
