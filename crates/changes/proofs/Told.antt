-- The call of `compare` and what it prints: applied to the first sheet's tables it gives the second's; nothing is printed exactly when the
-- tables are equal; and for one first sheet two seconds print alike exactly when their tables are. Assumes nothing.
use mathlib.Core.Path.{◌≡◌, ◌∙◌, sym, ap}
use mathlib.Core.Logic.{◌↔◌}
use mathlib.Core.List.{List, [], ◌++◌}
use Prim.Native.Nat.{ℕ, ◌+◌, ◌≤◌}
use native.Mathlib.Omega.{arith}
use lib.ListN.{length, take, drop}
use lib.Seq.{take-append_seam}
use Rattle.answer.specs.Rules.{Every}
use Rattle.answer.proofs.Judging.{every_append}
use Rattle.answer.proofs.Lent.{front-holds, back-holds, lent-accepted, lent-all}
use Rattle.answer.proofs.Steps.{first_holds, others_hold}
use Rattle.day_sheet.specs.Calls.{entries_of, rewrite_rules}
use Rattle.day_sheet.specs.Reading.{InForm}
use Rattle.sheet_joins.proofs.AnyOrder.{sheet-of}
use Rattle.day_sheet.proofs.Exact.{read-written}
use Rattle.changes.specs.Calls.{compare_rules, compare_text, tables_of}
use Rattle.changes.specs.Applying.{applied}
use Rattle.changes.specs.Saying.{Prints}
use Rattle.changes.proofs.Applied.{print-applied, nothing-applied}
use Rattle.changes.proofs.Alike.{printed-alike, printed_itself}
use Rattle.changes.proofs.Putting.{print-short}
use Rattle.sheet_entry.specs.declared.Form.{Form}

-- ---- of sheets in form

module _ (form : Form) where
  module _ (first second : List ℕ) (f : InForm form first) (g : InForm form second) where
    pub text-applied : applied (compare_text form first second) (tables_of form first) ≡ tables_of form second
    unfolding compare_text
    text-applied = print-applied form (entries_of form first) (entries_of form second) (sheet-of form first f) (sheet-of form second g)

    pub nothing-printed : (compare_text form first second ≡ []) ↔ (tables_of form first ≡ tables_of form second)
    nothing-printed = (to, from)
      where
        to : compare_text form first second ≡ [] → tables_of form first ≡ tables_of form second
        to e = sym (nothing-applied (tables_of form first)) ∙ ap (λ (t : List ℕ). applied t (tables_of form first)) (sym e) ∙ text-applied

        from : tables_of form first ≡ tables_of form second → compare_text form first second ≡ []
        from e =
            (unfold compare_text in
            sym (printed-alike (entries_of form first) (entries_of form first) (entries_of form second) e) ∙ printed_itself (entries_of form first))

    pub printed-exactly :
        (other : List ℕ) → InForm form other → (compare_text form first second ≡ compare_text form first other) ↔ (tables_of form second ≡ tables_of form other)
    printed-exactly other h = (to, from)
      where
        to : compare_text form first second ≡ compare_text form first other → tables_of form second ≡ tables_of form other
        to e =
            sym text-applied
            ∙ ap (λ (t : List ℕ). applied t (tables_of form first)) e
            ∙ (unfold compare_text in print-applied form (entries_of form first) (entries_of form other) (sheet-of form first f) (sheet-of form other h))

        from : tables_of form second ≡ tables_of form other → compare_text form first second ≡ compare_text form first other
        from e = (unfold compare_text in printed-alike (entries_of form first) (entries_of form second) (entries_of form other) e)

  -- ---- of what the call writes

  in_form : (sheet : List ℕ) → Every (rewrite_rules form sheet) → InForm form sheet
  unfolding rewrite_rules
  in_form sheet h = first_holds (others_hold h)

  -- the call writes the print, of sheets that it accepts
  prints-text : {first second text : List ℕ} → Prints form first second text → (text ≡ compare_text form first second) × InForm form first × InForm form second
  unfolding compare_rules
  prints-text {first} {second} {text} p =
      let rules = compare_rules form first second in
      let print = compare_text form first second in
      let a = lent-all rules print p.out (length text) p.answers in
      let w = (lent-accepted rules print p.out a.0 a.1).1 in
      let e : text ++ drop (length text) p.out ≡ print ++ drop (length print) p.out = sym p.writes ∙ w in
      let t : text ≡ print =
      sym (take-append_seam text (drop (length text) p.out))
      ∙ ap (λ (l : List ℕ). take (length text) l) e
      ∙ ap (λ (n : ℕ). take n (print ++ drop (length print) p.out)) a.2
      ∙ take-append_seam print (drop (length print) p.out) in (
        t,
        in_form first (front-holds (rewrite_rules form first) (rewrite_rules form second) a.0),
        in_form second (back-holds (rewrite_rules form first) (rewrite_rules form second) a.0),
      )

  -- given room, two sheets that `rewrite` accepts are accepted
  pub prints-all :
      (first second out : List ℕ) → Every (rewrite_rules form first) → Every (rewrite_rules form second) → length (compare_text form first second) ≤ length out
      → Prints form first second (compare_text form first second)
  unfolding compare_rules
  prints-all first second out f g h =
      let a = lent-accepted (compare_rules form first second) (compare_text form first second) out (every_append f g) h in
      record { out = out; answers = a.0; writes = a.1 }

  -- applied to the first sheet's tables, what the call writes gives the second's
  pub prints-apply : {first second text : List ℕ} → Prints form first second text → applied text (tables_of form first) ≡ tables_of form second
  prints-apply {first} {second} {text} p =
      let t = prints-text p in
      ap (λ (x : List ℕ). applied x (tables_of form first)) t.0 ∙ text-applied first second t.1 t.2

  -- nothing is written exactly when the tables are equal
  pub prints-nothing : {first second text : List ℕ} → Prints form first second text → (text ≡ []) ↔ (tables_of form first ≡ tables_of form second)
  prints-nothing {first} {second} {text} p =
      let t = prints-text p in
      let n = nothing-printed first second t.1 t.2 in
      (λ e. n.0 (sym t.0 ∙ e), λ e. t.0 ∙ n.1 e)

  -- for one first sheet the same is written exactly when the seconds' tables are equal
  pub prints-alike :
      {first second other text more : List ℕ} → Prints form first second text → Prints form first other more → (text ≡ more) ↔ (tables_of form second ≡ tables_of form other)
  prints-alike {first} {second} {other} {text} {more} p q =
      let t = prints-text p in
      let u = prints-text q in
      let n = printed-exactly first second t.1 t.2 other u.2 in
      (λ e. n.0 (sym t.0 ∙ e ∙ u.0), λ e. t.0 ∙ n.1 e ∙ sym u.0)

  -- what is written is at most as long as the two sheets together
  pub prints-short : {first second text : List ℕ} → Prints form first second text → length text ≤ length first + length second
  unfolding compare_text
  prints-short {first} {second} p =
      let t = prints-text p in
      let l = ap length t.0 in
      let a = ap length (read-written form first 0 t.1).0 in
      let b = ap length (read-written form second 0 t.2).0 in
      let s = print-short form (entries_of form first) (entries_of form second) in
      omega arith
