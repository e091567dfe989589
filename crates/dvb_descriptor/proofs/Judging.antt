-- How the rules of the two calls decide, a lemma for each way that the code goes. Assumes nothing.
use mathlib.Core.Path.{◌≡◌, ◌∙◌, refl, sym}
use mathlib.Core.Bool.{Bool, true, false, not}
use mathlib.Core.List.{List, [], ◌∷◌}
use Prim.Native.Nat.{ℕ, ◌+◌, ◌*◌, ◌%◌, ◌≤◌, ◌<◌}
use native.Mathlib.Omega.{arith}
use borrow.Author.Tests.{leb-true, le-leb, lt-leb, eqb-true, eq-eqb, ne_eqb, not-true, not-false}
use lib.Dec.{eqb, leb}
use lib.ListN.{length, get_or}
use Rattle.std.specs.declared.result.Result.TheVariants.{Ok}
use Rattle.laws.proofs.Tests.{both_true}
use Rattle.answer.specs.Rules.{Rule, rule, judged, Every}
use Rattle.answer.specs.Answer.{Answer}
use Rattle.answer.specs.Values.{refused}
use Rattle.answer.proofs.Steps.{done-value, done_every, first_holds, others_hold}
use Rattle.forms.specs.Tables.{TI, numbered, fits}
use Rattle.forms.specs.Form.{form, table_in}
use Rattle.forms.specs.Writing.{form_numbered, form_rules}
use Rattle.forms.proofs.Forms.{two_bytes}
use Rattle.forms.proofs.Judging.{form-said, form-edition}
use Rattle.dvb_descriptor.specs.Subtitles.{subtitles_of}
use Rattle.dvb_descriptor.specs.Entries.{count_in}
use Rattle.dvb_descriptor.specs.Calls.{most, write_rules, read_rules}
use Rattle.dvb_descriptor.specs.Internal.{is_other}

-- ---- writing

-- a form's block number by its two bytes
pub number_in :
    (f : List ℕ) (a b : ℕ) → a ≡ get_or f 2 0 → b ≡ get_or f 3 0 → a < 256 → b < 256
    → numbered (a + 256 * b) ≡ numbered (table_in f).block
unfolding table_in
number_in f a b ea eb ha hb = rw (two_bytes a b ha hb, ea, eb)

module _ (f : List ℕ) where
  pub other-short : length f < 6 → false ≡ is_other f
  other-short h = rw (lt-leb 6 (length f) h)

  pub other-edition : 6 ≤ length f → numbered (table_in f).block ≡ false → false ≡ is_other f
  other-edition h n = rw (le-leb 6 (length f) h, n)

  pub other-kind : 6 ≤ length f → numbered (table_in f).block ≡ true → not (eqb (get_or f 0 0) TI) ≡ is_other f
  other-kind h n = rw (le-leb 6 (length f) h, n)

-- the rule behind those of a form
abbrev pub few_rule : List ℕ → Rule
few_rule f = rule (leb (length (subtitles_of (table_in f))) most) 26 0

-- of a form that isn't of another kind: its kind, where its opening is there and its number is one of this edition
kind_of_lem :
    (f : List ℕ) (a : Answer) → is_other f ≡ false → form_numbered f ≡ true → leb 6 (length f) ≡ true → eqb (get_or f 0 0) TI ≡ true
kind_of_lem f a h e o =
    let m : numbered (table_in f).block ≡ true = form-edition f a e (leb-true 6 (length f) o) in
    not-false (eqb (get_or f 0 0) TI) (rw (o, m) at h)

module _ (f : List ℕ) (a : Answer) where
  -- another kind is 15 before its length is measured
  pub write-other : is_other f ≡ true → judged refused (write_rules f) a ≡ refused 15 0
  unfolding write_rules form_rules
  write-other h =
      let p = both_true (leb 6 (length f)) _ h in
      let q = both_true (numbered (table_in f).block) _ p.1 in
      rw (form-said f q.0, p.0, not-true (eqb (get_or f 0 0) TI) q.1)

  -- otherwise the form's rules decide, and then how many subtitles it has
  pub write-form : is_other f ≡ false → judged refused (write_rules f) a ≡ judged refused (form_rules f) (judged refused (few_rule f ∷ []) a)
  unfolding write_rules form_rules
  write-form h = go (form_numbered f) refl (leb 6 (length f)) refl
    where
      go :
          (n : Bool) → form_numbered f ≡ n → (o : Bool) → leb 6 (length f) ≡ o
          → judged refused (write_rules f) a ≡ judged refused (form_rules f) (judged refused (few_rule f ∷ []) a)
      go false e o e' = rw e
      go true e false e' = rw (e, e')
      go true e true e' = rw (e, e', kind_of_lem f a h e e')

-- a form that is taken is one of a TI table, as long as its counts make it, and its values fit
pub taken :
    (f : List ℕ) (a : Answer) → is_other f ≡ false → Every (form_rules f)
    → (get_or f 0 0 ≡ TI) × (length f ≡ length (form (table_in f))) × (fits (table_in f) ≡ true)
unfolding form_rules
taken f a h e =
    let e₁ = others_hold e in
    let e₃ = others_hold (others_hold e₁) in
    (eqb-true (get_or f 0 0) TI (kind_of_lem f a h (first_holds e) (first_holds e₁)), eqb-true (length f) _ (first_holds e₃), first_holds (others_hold e₃))

-- so are all forms whose descriptor is written, and their subtitles are few enough
pub written : (f : List ℕ) → Every (write_rules f) → (get_or f 0 0 ≡ TI) × (length (subtitles_of (table_in f)) ≤ 51)
unfolding write_rules form_rules
written f e =
    let e₂ = others_hold (others_hold e) in
    let e₆ = others_hold (others_hold (others_hold (others_hold e₂))) in
    (eqb-true (get_or f 0 0) TI (first_holds e₂), leb-true _ 51 (first_holds e₆))

-- where `judge` accepts, with the number of subtitles that it answers
pub accepted :
    (f : List ℕ) {first : Answer} {n : ℕ} → first ≡ judged refused (write_rules f) (Ok (length (subtitles_of (table_in f)))) → first ≡ Ok n
    → (n ≡ length (subtitles_of (table_in f))) × (get_or f 0 0 ≡ TI) × (n ≤ 51)
accepted f judges e =
    let n = done-value (write_rules f) _ _ (sym judges ∙ e) in
    let w = written f (done_every (write_rules f) _ _ (sym judges ∙ e)) in
    (n, w.0, omega (arith, n, w.1))

-- ---- reading

-- where `judge_bytes` accepts, with the number of entries that it answers
pub passed :
    (b : List ℕ) {first : Answer} {k : ℕ} → (first ≡ judged refused (read_rules b) (Ok (count_in b))) × (count_in b ≤ most) → first ≡ Ok k
    → (k ≡ count_in b) × (k ≤ 51)
passed b judges e =
    let k = done-value (read_rules b) _ _ (sym judges.0 ∙ e) in
    (k, omega (arith, k, judges.1))

module _ (b : List ℕ) (a : Answer) where
  pub read-tag : (get_or b 0 0 ≡ 0x56 → ⊥) → judged refused (read_rules b) a ≡ refused 27 0
  unfolding read_rules
  read-tag h = rw (ne_eqb (get_or b 0 0) 0x56 h)

  module _ (h₀ : get_or b 0 0 ≡ 0x56) where
    pub read_count : (get_or b 1 0 % 5 ≡ 0 → ⊥) → judged refused (read_rules b) a ≡ refused 27 0
    unfolding read_rules
    read_count h = rw (eq-eqb (get_or b 0 0) 0x56 h₀, ne_eqb (get_or b 1 0 % 5) 0 h)

    module _ (h₁ : get_or b 1 0 % 5 ≡ 0) where
      pub read_length : (length b ≡ 2 + get_or b 1 0 → ⊥) → judged refused (read_rules b) a ≡ refused 27 0
      unfolding read_rules
      read_length h =
          rw (eq-eqb (get_or b 0 0) 0x56 h₀, eq-eqb (get_or b 1 0 % 5) 0 h₁, ne_eqb (length b) (2 + get_or b 1 0) h)

      pub read_taken : length b ≡ 2 + get_or b 1 0 → judged refused (read_rules b) a ≡ a
      unfolding read_rules
      read_taken h =
          rw (eq-eqb (get_or b 0 0) 0x56 h₀, eq-eqb (get_or b 1 0 % 5) 0 h₁, eq-eqb (length b) (2 + get_or b 1 0) h)
