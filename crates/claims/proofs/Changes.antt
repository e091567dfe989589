-- The promises of `compare` of the call itself, from its contract alone: what it reports as written, applied to the first sheet's tables, gives
-- the second's; nothing is reported exactly when the tables are equal; and for one first sheet two seconds print alike exactly when their
-- tables are. Assumes nothing.
use mathlib.Core.Path.{◌≡◌, ◌∙◌, sym, ap, ap₂}
use mathlib.Core.Logic.{◌↔◌}
use mathlib.Core.List.{List, []}
use Prim.Native.Nat.{ℕ, ◌+◌, ◌≤◌}
use lib.ListN.{length, drop}
use lib.Seq.{take-append_seam}
use Rattle.std.specs.declared.result.Result.TheVariants.{Ok}
use Rattle.answer.proofs.Lent.{lent-accepted, lent-all}
use Rattle.changes.specs.declared.Compared.{Compared}
use Rattle.changes.specs.Calls.{compare_rules, compare_text, compare_answer, compare_left, fault_in, tables_of}
use Rattle.changes.specs.Applying.{applied}
use Rattle.changes.specs.Saying.{Prints}
use Rattle.changes.proofs.Told.{prints-apply, prints-nothing, prints-alike, prints-short}
use Rattle.claims.specs.Calls.{reported}
use Rattle.claims.specs.Sheets.{ComparesSheets, compare-sheets, Accepted}
use Rattle.sheet_entry.specs.declared.Form.{Form}

pub compares :
    {form : Form} {first second old out : List ℕ} {x : Compared} → ComparesSheets form first second old x out
    → (x.answer ≡ compare_answer form first second old) × (x.sheet ≡ fault_in form first second) × (out ≡ compare_left form first second old)
compares (compare-sheets κs a x t post) = (post.0, post.1.0, post.1.1)

module _ (form : Form) where
  -- what the call reports is what it prints
  reports : {first second old out : List ℕ} {x : Compared} → ComparesSheets form first second old x out → Accepted x.answer → Prints form first second (reported x.answer out)
  reports {first} {second} {old} {out} {x} call (n, d) =
      let c = compares call in
      let rules = compare_rules form first second in
      let text = compare_text form first second in
      let w = lent-all rules text old n (sym c.0 ∙ d) in
      let a = lent-accepted rules text old w.0 w.1 in
      let e : reported x.answer out ≡ text =
      ap₂ reported (d ∙ ap Ok w.2) (c.2 ∙ a.1) ∙ take-append_seam text (drop (length text) old) in
      rw e (record { out = old; answers = a.0; writes = a.1 })

  -- applied to the first sheet's tables, it gives the second's
  pub compare-applies :
      {first second old out : List ℕ} {x : Compared} → ComparesSheets form first second old x out → Accepted x.answer
      → applied (reported x.answer out) (tables_of form first) ≡ tables_of form second
  compare-applies call a = prints-apply form (reports call a)

  -- nothing is printed exactly when the tables are equal
  pub compare-nothing :
      {first second old out : List ℕ} {x : Compared} → ComparesSheets form first second old x out → Accepted x.answer
      → (reported x.answer out ≡ []) ↔ (tables_of form first ≡ tables_of form second)
  compare-nothing call a = prints-nothing form (reports call a)

  -- for one first sheet two seconds print alike exactly when their tables are equal
  pub compare_alike :
      {first second other old old' out out' : List ℕ} {x y : Compared} → ComparesSheets form first second old x out → Accepted x.answer
      → ComparesSheets form first other old' y out' → Accepted y.answer
      → (reported x.answer out ≡ reported y.answer out') ↔ (tables_of form second ≡ tables_of form other)
  compare_alike call a call' b = prints-alike form (reports call a) (reports call' b)

  -- it is at most as long as the two sheets together
  pub compare-short :
      {first second old out : List ℕ} {x : Compared} → ComparesSheets form first second old x out → Accepted x.answer
      → length (reported x.answer out) ≤ length first + length second
  compare-short call a = prints-short form (reports call a)
