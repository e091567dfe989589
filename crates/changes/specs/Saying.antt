-- What a call of `compare` prints, where it is accepted (SCOPE 28.2).
use Rattle.std.specs.declared.result.Result.TheVariants.{Ok}
use Rattle.std.specs.Prelude.{◌≡◌, List, ◌++◌, ℕ, length, drop}
use Rattle.changes.specs.Calls.{compare_answer, compare_left}
use Rattle.sheet_entry.specs.declared.Form.{Form}

module _ (form : Form) where
  -- into some output the call writes this text
  pub record Prints (first second text : List ℕ) : Type 0 where
    pub out : List ℕ
    pub answers : compare_answer form first second out ≡ Ok (length text)
    pub writes : compare_left form first second out ≡ text ++ drop (length text) out
