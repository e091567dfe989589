-- What a call of `drop` gives into every output that is as long as the limit (SCOPE 20.8).
use Rattle.std.specs.declared.result.Result.TheVariants.{Ok}
use Rattle.std.specs.Prelude.{◌≡◌, List, ◌++◌, ℕ, ◌≤◌, length, drop}
use Rattle.answer.specs.Writing.{answered, left}
use Rattle.day_sheet.specs.Entries.{sheet_text, byte_limit}
use Rattle.day_sheet.specs.Calls.{drop_rules, drop_result}
use Rattle.sheet_entry.specs.declared.Form.{Form}

module _ (form : Form) where
  -- it writes this result
  pub record Drops (network kind block : ℕ) (sheet result : List ℕ) : Type 0 where
    pub answers :
        (out : List ℕ) → byte_limit form ≤ length out
        → answered (drop_rules form network kind block sheet) (sheet_text form (drop_result form network kind block sheet)) out ≡ Ok (length result)
    pub writes :
        (out : List ℕ) → byte_limit form ≤ length out
        → left (drop_rules form network kind block sheet) (sheet_text form (drop_result form network kind block sheet)) out ≡ result ++ drop (length result) out
