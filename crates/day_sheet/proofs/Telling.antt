-- A call that answers 20 names the first line at fault of the sheet that it judged: no other rule has that number. Assumes nothing.
use mathlib.Core.Path.{◌≡◌, ap, subst}
use mathlib.Core.Logic.{◌⊎◌, inl, inr}
use mathlib.Core.List.{List, [], ◌∷◌, ◌++◌}
use Prim.Native.Nat.{ℕ}
use native.Mathlib.Omega.{arith}
use Rattle.answer.specs.Rules.{Rule, none, First, here, later}
use Rattle.answer.specs.Values.{refused, number_of, offset_of}
use Rattle.answer.specs.Writing.{room, answered}
use Rattle.answer.proofs.Judging.{refused_exactly}
use Rattle.answer.proofs.Steps.{every_first}
use Rattle.sheet_entry.specs.Entries.{Entry}
use Rattle.day_sheet.specs.Entries.{sheet_text}
use Rattle.day_sheet.specs.Calls.{entries_of, formed, limited, rewrite_rules, rewritten, drop_rules, drop_result}
use Rattle.day_sheet.specs.Reading.{InForm}
use Rattle.day_sheet.specs.Saying.{rewrite_answer}
use Rattle.day_sheet.specs.Faults.{FirstFault}
use Rattle.day_sheet.proofs.Faulting.{first-fault}
use Rattle.sheet_entry.specs.declared.Form.{Form}

-- the rule that answers 20 at this offset, among these and behind those that are judged before
pub record At (n : ℕ) (rs : List Rule) : Type 0 where
  pub by : Rule
  pub first : First by rs
  pub number_is : by.number ≡ 20
  pub offset_is : by.offset ≡ n

pub at_first : (rules : List Rule) (bytes old : List ℕ) (n : ℕ) → answered rules bytes old ≡ refused 20 n → At n (rules ++ room bytes old ∷ [])
at_first rules bytes old n e =
    let r = (refused_exactly rules bytes old 20 n (omega arith)).0 (ap number_of e, ap offset_of e) in
    record { by = r.0; first = r.1; number_is = r.2; offset_is = r.3 }

-- a rule of another number is passed
pub passed : {n : ℕ} {r : Rule} {rs : List Rule} → (r.number ≡ 20 → ⊥) → At n (r ∷ rs) → At n rs
passed {n} {r} {rs} other a = go a.first a.number_is a.offset_is
  where
    go : {q : Rule} → First q (r ∷ rs) → q.number ≡ 20 → q.offset ≡ n → At n rs
    go (here h) e o = absurd (other e)
    go {q} (later h f) e o = record { by = q; first = f; number_is = e; offset_is = o }

-- none is left
nowhere : {P : Type 0} {n : ℕ} → At n [] → P
nowhere a = absurd (every_first none a.first)

module _ (form : Form) where
  -- the result's size and the room
  sized : {P : Type 0} {n : ℕ} (es : List Entry) (bytes old : List ℕ) → At n (limited form es ++ room bytes old ∷ []) → P
  sized es bytes old a = nowhere (passed (λ e. omega arith) (passed (λ e. omega arith) (passed (λ e. omega arith) a)))

  -- the sheet's own rule
  pub judged-form : {n : ℕ} (sheet : List ℕ) {rs : List Rule} → At n (formed form sheet ∷ rs) → FirstFault form sheet n ⊎ (InForm form sheet × At n rs)
  judged-form {n} sheet {rs} a = go a.first a.number_is a.offset_is
    where
      go : {q : Rule} → First q (formed form sheet ∷ rs) → q.number ≡ 20 → q.offset ≡ n → FirstFault form sheet n ⊎ (InForm form sheet × At n rs)
      go (here h) e o = inl (subst (FirstFault form sheet) o (first-fault form sheet h))
      go {q} (later h f) e o = inr (h, record { by = q; first = f; number_is = e; offset_is = o })

  -- ---- the calls

  -- where the form decides, and then only sizes and the room
  pub last-form :
      {n : ℕ} (sheet : List ℕ) (es : List Entry) (bytes old : List ℕ) → At n (formed form sheet ∷ (limited form es ++ room bytes old ∷ [])) → FirstFault form sheet n
  last-form {n} sheet es bytes old a = go (judged-form sheet a)
    where
      go : FirstFault form sheet n ⊎ (InForm form sheet × At n (limited form es ++ room bytes old ∷ [])) → FirstFault form sheet n
      go (inl f) = f
      go (inr r) = sized es bytes old r.1

  pub rewrite-told : (sheet old : List ℕ) (n : ℕ) → rewrite_answer form sheet old ≡ refused 20 n → FirstFault form sheet n
  unfolding rewrite_rules
  rewrite-told sheet old n e =
      last-form sheet (entries_of form sheet) (rewritten form sheet) old (passed (λ e. omega arith) (at_first (rewrite_rules form sheet) (rewritten form sheet) old n e))

  pub drop-told :
      (network kind block : ℕ) (sheet old : List ℕ) (n : ℕ)
      → answered (drop_rules form network kind block sheet) (sheet_text form (drop_result form network kind block sheet)) old ≡ refused 20 n → FirstFault form sheet n
  unfolding drop_rules
  drop-told network kind block sheet old n e =
      let es = drop_result form network kind block sheet in
      last-form sheet es (sheet_text form es) old (passed (λ e. omega arith) (at_first (drop_rules form network kind block sheet) (sheet_text form es) old n e))
