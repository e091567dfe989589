-- A sheet judged and written again. Assumes nothing.
use mathlib.Core.Path.{◌≡◌, ◌∙◌, sym, ap}
use mathlib.Core.List.{List}
use Prim.Native.Nat.{ℕ, ◌≤◌, ◌<◌}
use native.Mathlib.Omega.{arith}
use borrow.Author.Tests.{le-leb, lt-leb}
use lib.ListN.{length, take, drop}
use lib.Seq.{sets, take-length}
use Rattle.std.specs.declared.result.Result.TheVariants.{Ok, Err}
use Rattle.answer.specs.declared.Refusal.{Refusal}
use Rattle.answer.specs.Answer.{Answer}
use Rattle.answer.specs.Rules.{judged}
use Rattle.answer.specs.Values.{refused}
use Rattle.answer.specs.Writing.{answered, left}
use Rattle.answer.proofs.Steps.{done_every, first_holds, others_hold}
use Rattle.answer.proofs.Lent.{lent-refused, lent-short, lent-done}
use Rattle.listing_reader.specs.Many.{Many}
use Rattle.sheet_entry.specs.Entries.{Entry}
use Rattle.sheet_entry.proofs.Heads.{read_all, read_none}
use Rattle.day_sheet.specs.Entries.{sheet_text, entry_limit, byte_limit}
use Rattle.day_sheet.specs.Reading.{sheet_of}
use Rattle.day_sheet.specs.Calls.{limited, entries_of, count_rules, rewrite_rules, rewritten}
use Rattle.day_sheet.specs.Internal.{sheet_read}
use Rattle.day_sheet.proofs.Exact.{read-written}
use Rattle.day_sheet.proofs.Counted.{counted-bad, counted-short, counted-fine, counted-as}
use Rattle.sheet_entry.specs.declared.Form.{Form}

-- ---- the entries counted

module _ (form : Form) where
  module _ (sheet : List ℕ) (a : Answer) where
    pub count_long : byte_limit form < length sheet → refused 21 0 ≡ judged refused (count_rules form sheet) a
    count_long h = rw (lt-leb (length sheet) (byte_limit form) h)

  module _ (sheet : List ℕ) (fits : length sheet ≤ byte_limit form) where
    pub count-bad : {n : ℕ} → Err n ≡ sheet_read (sheet_of form sheet) → (a : Answer) → refused 20 n ≡ judged refused (count_rules form sheet) a
    count-bad reads a =
        let r = read_none (λ (x : Many Entry). length x.items) (sheet_of form sheet) reads in
        rw (le-leb (length sheet) (byte_limit form) fits, r.1, r.0)

    pub count-good : {n : ℕ} → Ok n ≡ sheet_read (sheet_of form sheet) → Ok n ≡ judged refused (count_rules form sheet) (Ok (length (entries_of form sheet)))
    count-good reads =
        let r = read_all (λ (x : Many Entry). length x.items) (sheet_of form sheet) reads in
        rw (le-leb (length sheet) (byte_limit form) fits, r.1, r.0)

  -- ---- the rules

  module _ (sheet : List ℕ) (a : Answer) {r : Answer} (counts : r ≡ judged refused (count_rules form sheet) (Ok (length (entries_of form sheet)))) where
    pub judge-bad : {w : Refusal} → r ≡ Err w → Err w ≡ judged refused (rewrite_rules form sheet) a
    unfolding rewrite_rules
    judge-bad e = counted-bad form sheet counts e (limited form (entries_of form sheet)) a

    module _ {m : ℕ} (done : r ≡ Ok m) where
      fits : length sheet ≤ byte_limit form
      fits = counted-short form sheet counts done

      counted : m ≡ length (entries_of form sheet)
      counted = counted-as form sheet counts done

      pub judge-many : entry_limit < m → refused 21 0 ≡ judged refused (rewrite_rules form sheet) a
      unfolding rewrite_rules
      judge-many h =
          rw (le-leb (length sheet) (byte_limit form) fits, counted-fine form sheet counts done, lt-leb (length (entries_of form sheet)) entry_limit (omega (arith, counted)))

      pub judge-good : m ≤ entry_limit → a ≡ judged refused (rewrite_rules form sheet) a
      unfolding rewrite_rules
      judge-good h =
          let l : length (sheet_text form (entries_of form sheet)) ≡ length sheet = sym (ap length (read-written form sheet 0 (counted-fine form sheet counts done)).0) in
          rw (
            le-leb (length sheet) (byte_limit form) fits,
            counted-fine form sheet counts done,
            le-leb (length (entries_of form sheet)) entry_limit (omega (arith, counted)),
            le-leb (length (sheet_text form (entries_of form sheet))) (byte_limit form) (omega (arith, l, fits)),
          )

  -- ---- written again

  module _ (sheet old : List ℕ) {r : Answer} (judges : r ≡ judged refused (rewrite_rules form sheet) (Ok (length sheet))) where
    pub rewrite-refused :
        {w : Refusal} → r ≡ Err w
        → (Err w ≡ answered (rewrite_rules form sheet) (rewritten form sheet) old) × (old ≡ left (rewrite_rules form sheet) (rewritten form sheet) old)
    rewrite-refused e = lent-refused (rewrite_rules form sheet) (rewritten form sheet) old (length sheet) judges e

    module _ {m : ℕ} (done : r ≡ Ok m) where
      same_bytes : sheet ≡ rewritten form sheet
      unfolding rewritten rewrite_rules
      same_bytes =
          let every = done_every (rewrite_rules form sheet) (length sheet) m (sym judges ∙ done) in
          (read-written form sheet 0 (first_holds (others_hold every))).0

      pub rewrite-short :
          length old < length sheet
          → (refused 1 0 ≡ answered (rewrite_rules form sheet) (rewritten form sheet) old) × (old ≡ left (rewrite_rules form sheet) (rewritten form sheet) old)
      rewrite-short h =
          lent-short (rewrite_rules form sheet) (rewritten form sheet) old (length sheet) judges done (omega (arith, ap length same_bytes))

      pub rewrite-done :
          {out : List ℕ} → length sheet ≤ length old → out ≡ sets old 0 (take (length sheet) (drop 0 sheet))
          → (Ok (length sheet) ≡ answered (rewrite_rules form sheet) (rewritten form sheet) old) × (out ≡ left (rewrite_rules form sheet) (rewritten form sheet) old)
      rewrite-done h e =
          let d = lent-done (rewrite_rules form sheet) (rewritten form sheet) old (length sheet) judges done (omega (arith, ap length same_bytes)) in
          (ap (λ (x : List ℕ). Ok (length x)) same_bytes ∙ d.0, e ∙ ap (sets old 0) (take-length sheet ∙ same_bytes) ∙ d.1)
