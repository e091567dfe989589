-- What bytes say as a day sheet (SCOPE 20.6), and what the call of `rewrite` answers and leaves.
use Rattle.std.specs.Prelude.{◌≡◌, true, List, ℕ, ◌≤◌, length}
use Rattle.laws.specs.Keyed.{rising}
use Rattle.answer.specs.Answer.{Answer}
use Rattle.answer.specs.Writing.{answered, left}
use Rattle.sheet_entry.specs.Entries.{Entry, key_of}
use Rattle.day_sheet.specs.Entries.{sheet_text, all_written, entry_limit, byte_limit}
use Rattle.day_sheet.specs.Calls.{rewrite_rules, rewritten}
use Rattle.sheet_entry.specs.declared.Form.{Form}

module _ (form : Form) where
  -- bytes are the text of these entries, which rise and can each be written, and are within the limits
  pub record Says (bytes : List ℕ) (es : List Entry) : Type 0 where
    pub text : bytes ≡ sheet_text form es
    pub rise : rising key_of es ≡ true
    pub can : all_written form es ≡ true
    pub few : length es ≤ entry_limit
    pub short : length bytes ≤ byte_limit form

  -- what a call of `rewrite` answers, and what it leaves in the lent output
  abbrev pub rewrite_answer : List ℕ → List ℕ → Answer
  rewrite_answer sheet out = answered (rewrite_rules form sheet) (rewritten form sheet) out

  abbrev pub rewrite_left : List ℕ → List ℕ → List ℕ
  rewrite_left sheet out = left (rewrite_rules form sheet) (rewritten form sheet) out
