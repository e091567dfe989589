-- Sheets joined in any order and any grouping (SCOPE 25): what a call of `join` gives, a tree of such calls, and the premise.
use Rattle.std.specs.declared.result.Result.TheVariants.{Ok}
use Rattle.std.specs.Prelude.{◌≡◌, List, [], ◌∷◌, map, ◌++◌, ℕ, ◌≤◌, length, drop}
use Rattle.answer.specs.Answer.{Answer}
use Rattle.answer.specs.Rules.{Every}
use Rattle.answer.specs.Writing.{answered, left}
use Rattle.laws.specs.Together.{Tree, one, two, Within}
use Rattle.sheet_entry.specs.Entries.{Entry, key_of, entry_text, stamp_most}
use Rattle.sheet_entry.specs.Writing.{stamped, entry_rules}
use Rattle.day_sheet.specs.Entries.{sheet_text, entry_limit, byte_limit}
use Rattle.day_sheet.specs.Calls.{entries_of}
use Rattle.sheet_joins.specs.Calls.{add_rules, add_result, join_rules, join_result}
use Rattle.sheet_entry.specs.declared.Form.{Form}

-- a table form, the stamp of its capture, and what was mended of it
pub record Captured : Type 0 where
  pub stamp : ℕ
  pub mended : ℕ
  pub table : List ℕ

module _ (form : Form) where
  -- what a call of `join` answers, and what it leaves in the lent output
  abbrev pub join_answer : List ℕ → List ℕ → List ℕ → Answer
  join_answer first second out = answered (join_rules form first second) (sheet_text form (join_result form first second)) out

  abbrev pub join_left : List ℕ → List ℕ → List ℕ → List ℕ
  join_left first second out = left (join_rules form first second) (sheet_text form (join_result form first second)) out

  -- into every output that is as long as the limit, `join` writes this sheet
  pub record Joins (first second sheet : List ℕ) : Type 0 where
    pub answers : (out : List ℕ) → byte_limit form ≤ length out → join_answer first second out ≡ Ok (length sheet)
    pub writes : (out : List ℕ) → byte_limit form ≤ length out → join_left first second out ≡ sheet ++ drop (length sheet) out

  -- the calls of a tree, each on what two others wrote, and the sheet that the last one writes
  pub data Run : Tree (List ℕ) → List ℕ → Type 0 where
    lent : (sheet : List ℕ) → Run (one sheet) sheet
    call : {s t : Tree (List ℕ)} {a b c : List ℕ} → Run s a → Run t b → Joins a b c → Run (two s t) c

  -- how long an entry is
  abbrev pub size_of : Entry → ℕ
  size_of e = length (entry_text form e)

  -- the premise: all the sheets have at most 64 keys, and for each key the longest of its entries, added up, come to the limit at most
  abbrev pub Room : List (List ℕ) → Type 0
  Room sheets = Within key_of size_of entry_limit (byte_limit form) (map (entries_of form) sheets)

  -- ---- tables added one by one

  -- the sheet of that one entry
  abbrev pub sheet_of_one : Captured → List ℕ
  sheet_of_one c = entry_text form (stamped c.stamp c.mended c.table)

  -- into every output that is as long as the limit, `add` writes this result
  pub record Adds (sheet : List ℕ) (c : Captured) (result : List ℕ) : Type 0 where
    pub answers :
        (out : List ℕ) → byte_limit form ≤ length out
        → answered (add_rules form c.stamp c.mended sheet c.table) (sheet_text form (add_result form c.stamp c.mended sheet c.table)) out ≡ Ok (length result)
    pub writes :
        (out : List ℕ) → byte_limit form ≤ length out
        → left (add_rules form c.stamp c.mended sheet c.table) (sheet_text form (add_result form c.stamp c.mended sheet c.table)) out
        ≡ result ++ drop (length result) out

  -- calls of `add`, each on the sheet that the one before wrote
  pub data Added : List ℕ → List Captured → List ℕ → Type 0 where
    all : (sheet : List ℕ) → Added sheet [] sheet
    next : {sheet middle result : List ℕ} {c : Captured} {cs : List Captured} → Adds sheet c middle → Added middle cs result → Added sheet (c ∷ cs) result

  -- a table that block writing takes, a stamp within its range, and a number that the sheet's form can say
  pub record Takes (c : Captured) : Type 0 where
    pub form_holds : Every (entry_rules form c.mended c.table)
    pub stamp_fits : c.stamp ≤ stamp_most
