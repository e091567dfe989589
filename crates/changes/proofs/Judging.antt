-- The two sheets judged, the first and then the second: which one is at fault, and what is answered. Assumes nothing.
use mathlib.Core.Path.{◌≡◌, ◌∙◌, refl, sym, ap}
use mathlib.Core.Logic.{◌⊎◌, inl, inr}
use mathlib.Core.List.{List, [], ◌∷◌, ◌++◌}
use Prim.Native.Nat.{ℕ}
use native.Mathlib.Omega.{arith}
use lib.ListN.{length}
use borrow.Author.Tests.{leb-true}
use Rattle.std.specs.declared.result.Result.TheVariants.{Ok, Err}
use Rattle.answer.specs.declared.Refusal.{Refusal}
use Rattle.answer.specs.Answer.{Answer}
use Rattle.answer.specs.Rules.{Rule, judged, Every, First}
use Rattle.answer.specs.Values.{refused}
use Rattle.answer.specs.Writing.{room, answered, after, left}
use Rattle.answer.proofs.Judging.{passes, refuses, decided, every_append}
use Rattle.answer.proofs.Steps.{judged-append, refused-then, done_every, first_holds, others_hold}
use Rattle.answer.proofs.Lent.{lent-refused}
use Rattle.day_sheet.specs.Entries.{byte_limit}
use Rattle.day_sheet.specs.Calls.{rewrite_rules}
use Rattle.day_sheet.specs.Internal.{Halfway}
use Rattle.day_sheet.proofs.Limits.{halfway}
use Rattle.changes.specs.Calls.{compare_rules, compare_text, compare_answer, compare_left, fault_in}
use Rattle.sheet_entry.specs.declared.Form.{Form}

-- where the rules refuse, the number is that of their sheet
fault_is : (rs : List Rule) (n x a : ℕ) {w : Refusal} → judged refused rs (Ok n) ≡ Err w → judged (λ no at. x) rs a ≡ x
fault_is rs n x a {w} e = go (decided rs)
  where
    go : Every rs ⊎ ((q : Rule) × First q rs) → judged (λ no at. x) rs a ≡ x
    go (inl h) =
        let d = sym (passes refused (Ok n) h) ∙ e in
        let z : ◌≡◌ {A = ℕ} 0 1 = cc in
        absurd (omega arith)
    go (inr f) = refuses (λ no at. x) a f.1

module _ (form : Form) where
  -- a sheet that was judged can be walked
  pub sheet-halfway : (sheet : List ℕ) → Every (rewrite_rules form sheet) → Halfway form sheet 0
  unfolding rewrite_rules
  sheet-halfway sheet h =
      halfway form sheet (leb-true (length sheet) (byte_limit form) (first_holds h)) (first_holds (others_hold h))

  module _ (sheet : List ℕ) {r : Answer} (judges : r ≡ judged refused (rewrite_rules form sheet) (Ok (length sheet))) where
    pub sound : {m : ℕ} → r ≡ Ok m → Every (rewrite_rules form sheet)
    sound {m} e = done_every (rewrite_rules form sheet) (length sheet) m (sym judges ∙ e)

  module _ (first second old : List ℕ) where
    -- what is answered where a rule refuses
    refusal : {w : Refusal} → Err w ≡ judged refused (compare_rules form first second) (Ok 0) → (Err w ≡ compare_answer form first second old) × (old ≡ compare_left form first second old)
    refusal j = lent-refused (compare_rules form first second) (compare_text form first second) old 0 j refl

    pub first-fault :
        {w : Refusal} → judged refused (rewrite_rules form first) (Ok (length first)) ≡ Err w
        → (Err w ≡ compare_answer form first second old) × (1 ≡ fault_in form first second) × (old ≡ compare_left form first second old)
    unfolding fault_in compare_rules
    first-fault {w} e =
        let j =
        judged-append refused (rewrite_rules form first) (rewrite_rules form second) (Ok 0)
        ∙ refused-then (rewrite_rules form first) (length first) w (judged refused (rewrite_rules form second) (Ok 0)) e in
        let a = refusal (sym j) in
        (a.0, sym (fault_is (rewrite_rules form first) (length first) 1 (judged (λ no at. 2) (rewrite_rules form second) 0) e), a.1)

    pub second-fault :
        {w : Refusal} → Every (rewrite_rules form first) → judged refused (rewrite_rules form second) (Ok (length second)) ≡ Err w
        → (Err w ≡ compare_answer form first second old) × (2 ≡ fault_in form first second) × (old ≡ compare_left form first second old)
    unfolding fault_in compare_rules
    second-fault {w} h e =
        let j =
        judged-append refused (rewrite_rules form first) (rewrite_rules form second) (Ok 0)
        ∙ passes refused (judged refused (rewrite_rules form second) (Ok 0)) h
        ∙ refused-then (rewrite_rules form second) (length second) w (Ok 0) e in
        let a = refusal (sym j) in
        let f : fault_in form first second ≡ 2 =
        passes (λ no at. 1) (judged (λ no at. 2) (rewrite_rules form second) 0) h ∙ fault_is (rewrite_rules form second) (length second) 2 0 e in
        (a.0, sym f, a.1)

    -- where none does, only the room decides
    pub neither :
        {a : Answer} {out : List ℕ} → Every (rewrite_rules form first) → Every (rewrite_rules form second)
        → a ≡ answered [] (compare_text form first second) old → out ≡ left [] (compare_text form first second) old
        → (a ≡ compare_answer form first second old) × (0 ≡ fault_in form first second) × (out ≡ compare_left form first second old)
    unfolding fault_in compare_rules
    neither h k e d =
        let text = compare_text form first second in
        let j =
        judged-append refused (rewrite_rules form first ++ rewrite_rules form second) (room text old ∷ []) (Ok (length text))
        ∙ passes refused (judged refused (room text old ∷ []) (Ok (length text))) (every_append h k) in
        let f : fault_in form first second ≡ 0 = passes (λ no at. 1) (judged (λ no at. 2) (rewrite_rules form second) 0) h ∙ passes (λ no at. 2) 0 k in
        (e ∙ sym j, sym f, d ∙ ap (λ (x : Answer). after x text old) (sym j))
