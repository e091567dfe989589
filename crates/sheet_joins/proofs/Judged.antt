-- The rules of `join`, judged in their order: one law for each of them that refuses, and one where none does. Assumes nothing.
use mathlib.Core.Path.{◌≡◌, refl}
use mathlib.Core.Bool.{Bool, true, false}
use mathlib.Core.List.{List, [], ◌∷◌}
use Prim.Native.Nat.{ℕ, ◌≤◌, ◌<◌}
use lib.Dec.{leb}
use lib.ListN.{length}
use borrow.Author.Tests.{le-leb, lt-leb, leb-true}
use Rattle.std.specs.declared.result.Result.TheVariants.{Ok, Err}
use Rattle.answer.specs.Answer.{Answer}
use Rattle.answer.specs.declared.Refusal.{Refusal}
use Rattle.answer.specs.Rules.{Rule, rule, judged}
use Rattle.answer.specs.Values.{refused}
use Rattle.answer.proofs.Steps.{done_every, first_holds, others_hold}
use Rattle.laws.specs.Pick.{pick}
use Rattle.day_sheet.specs.Entries.{sheet_text, entry_limit, byte_limit}
use Rattle.day_sheet.specs.Reading.{sheet_of}
use Rattle.day_sheet.specs.Calls.{formed, limited, entries_of, count_rules}
use Rattle.day_sheet.proofs.Limits.{halfway}
use Rattle.day_sheet.proofs.Counted.{counted-bad}
use Rattle.sheet_joins.specs.Calls.{join_rules, join_result}
use Rattle.day_sheet.specs.Internal.{Halfway}
use Rattle.sheet_entry.specs.declared.Form.{Form}

-- ---- the size of what is joined

module _ (form : Form) where
  module _ (n l : ℕ) where
    abbrev sized : List Rule
    sized = rule (leb n entry_limit) 21 0 ∷ rule (leb l (byte_limit form)) 21 0 ∷ []

    pub sized-many : entry_limit < n → refused 21 0 ≡ judged refused sized (Ok l)
    sized-many h = rw (lt-leb n entry_limit h)

    pub sized-long : n ≤ entry_limit → byte_limit form < l → refused 21 0 ≡ judged refused sized (Ok l)
    sized-long h k = rw (le-leb n entry_limit h, lt-leb l (byte_limit form) k)

    pub sized-done : n ≤ entry_limit → l ≤ byte_limit form → Ok l ≡ judged refused sized (Ok l)
    sized-done h k = rw (le-leb n entry_limit h, le-leb l (byte_limit form) k)

  -- ---- the rules before it

  module _ (first second : List ℕ) (a : Answer) where
    abbrev all : Answer
    all = judged refused (join_rules form first second) a

    -- the second too long: whether the first is too or not, that is 21
    pub second-long : byte_limit form < length second → refused 21 0 ≡ all
    unfolding join_rules
    second-long k = rw (lt-leb (length second) (byte_limit form) k) (go (leb (length first) (byte_limit form)))
      where
        go : (b : Bool) → refused 21 0 ≡ pick b (refused 21 0) (refused 21 0)
        go true = refl
        go false = refl

    module _ (k : length second ≤ byte_limit form) where
      pub first-bad :
          {r : Answer} → r ≡ judged refused (count_rules form first) (Ok (length (entries_of form first))) → {w : Refusal} → r ≡ Err w → Err w ≡ all
      unfolding join_rules
      first-bad counts e =
          rw (le-leb (length second) (byte_limit form) k) (counted-bad form first counts e (formed form second ∷ limited form (join_result form first second)) a)

      pub second-bad :
          length first ≤ byte_limit form → (sheet_of form first).fine ≡ true → {r : Answer} → r ≡ judged refused (count_rules form second) (Ok (length (entries_of form second)))
          → {w : Refusal} → r ≡ Err w → Err w ≡ all
      unfolding join_rules
      second-bad h f counts e =
          rw (le-leb (length first) (byte_limit form) h, f) (counted-bad form second counts e (limited form (join_result form first second)) a)

  -- each of them in form and not too long: then the size of what they give decides
  pub size-decides :
      (first second : List ℕ) {n l : ℕ} → length first ≤ byte_limit form → length second ≤ byte_limit form → (sheet_of form first).fine ≡ true
      → (sheet_of form second).fine ≡ true → n ≡ length (join_result form first second) → l ≡ length (sheet_text form (join_result form first second))
      → judged refused (sized n l) (Ok l) ≡ judged refused (join_rules form first second) (Ok (length (sheet_text form (join_result form first second))))
  unfolding join_rules
  size-decides first second h k f g en el = rw (en, el, le-leb (length first) (byte_limit form) h, le-leb (length second) (byte_limit form) k, f, g)

  -- ---- what was judged can be walked

  pub judged-halves :
      (first second : List ℕ) (n m : ℕ) → judged refused (join_rules form first second) (Ok n) ≡ Ok m → Halfway form first 0 × Halfway form second 0
  unfolding join_rules
  judged-halves first second n m e =
      let a = done_every (join_rules form first second) n m e in
      let b = others_hold a in
      let c = others_hold b in
      let d = others_hold c in (
        halfway form first (leb-true (length first) (byte_limit form) (first_holds a)) (first_holds c),
        halfway form second (leb-true (length second) (byte_limit form) (first_holds b)) (first_holds d),
      )
