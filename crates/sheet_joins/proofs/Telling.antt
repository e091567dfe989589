-- What a 20 of `join` and `add` says of the lent sheets: the fault that its offset names (SCOPE 20.7). Assumes nothing.
use mathlib.Core.Path.{◌≡◌}
use mathlib.Core.List.{List, [], ◌∷◌, ◌++◌}
use mathlib.Core.Logic.{◌⊎◌, inl, inr}
use Prim.Native.Nat.{ℕ}
use native.Mathlib.Omega.{arith}
use Rattle.answer.specs.Values.{refused}
use Rattle.answer.specs.Writing.{room, answered}
use Rattle.forms.specs.Writing.{form_rules}
use Rattle.sheet_entry.specs.declared.Form.{Form}
use Rattle.day_sheet.specs.Entries.{sheet_text}
use Rattle.day_sheet.specs.Reading.{InForm}
use Rattle.day_sheet.specs.Calls.{formed, limited}
use Rattle.day_sheet.specs.Faults.{FirstFault}
use Rattle.day_sheet.proofs.Telling.{At, at_first, passed, judged-form, last-form}
use Rattle.sheet_joins.specs.Calls.{add_rules, add_result, join_rules, join_result}
use Rattle.sheet_joins.specs.AnyOrder.{join_answer}

module _ (form : Form) where
  -- of the first sheet, or of the second where the first is in form
  pub join-told :
      (first second old : List ℕ) (n : ℕ) → join_answer form first second old ≡ refused 20 n → FirstFault form first n ⊎ (InForm form first × FirstFault form second n)
  unfolding join_rules
  join-told first second old n e =
      go
      (judged-form form first
      (passed (λ e. omega arith) (passed (λ e. omega arith) (at_first (join_rules form first second) (sheet_text form (join_result form first second)) old n e))))
    where
      go :
          FirstFault form first n
          ⊎ (InForm form first × At n (formed form second ∷ (limited form (join_result form first second) ++ room (sheet_text form (join_result form first second)) old ∷ [])))
          → FirstFault form first n ⊎ (InForm form first × FirstFault form second n)
      go (inl f) = inl f
      go (inr r) = inr (r.0, last-form form second (join_result form first second) (sheet_text form (join_result form first second)) old r.1)

  pub add-told :
      (stamp mended : ℕ) (sheet table old : List ℕ) (n : ℕ)
      → answered (add_rules form stamp mended sheet table) (sheet_text form (add_result form stamp mended sheet table)) old ≡ refused 20 n → FirstFault form sheet n
  unfolding add_rules form_rules
  add-told stamp mended sheet table old n e =
      last-form form sheet (add_result form stamp mended sheet table) (sheet_text form (add_result form stamp mended sheet table)) old
      (passed (λ e. omega arith)
      (passed (λ e. omega arith)
      (passed (λ e. omega arith)
      (passed (λ e. omega arith)
      (passed (λ e. omega arith)
      (passed (λ e. omega arith)
      (passed (λ e. omega arith) (at_first (add_rules form stamp mended sheet table) (sheet_text form (add_result form stamp mended sheet table)) old n e))))))))
