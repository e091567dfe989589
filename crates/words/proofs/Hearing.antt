-- How a word is heard. Assumes nothing.
use mathlib.Core.Path.{◌≡◌, refl}
use mathlib.Core.Bool.{Bool, true, false, not}
use mathlib.Core.List.{List, [], ◌∷◌}
use Prim.Native.Nat.{ℕ, ◌≤◌, ◌<◌}
use native.Mathlib.Omega.{arith}
use borrow.Author.Tests.{lt-ltb, le-ltb, eq-eqb, ne_eqb}
use lib.ListN.{length, get_or}
use Rattle.laws.specs.Pick.{pick}
use Rattle.texts.specs.Texts.{same_text, stands_in}
use Rattle.words.specs.declared.Said.{Said}
use Rattle.words.specs.declared.places.Spot.{Spot}
use Rattle.words.specs.declared.Stage.{Stage}
use Rattle.words.specs.declared.Stage.TheVariants.{Options, Value, Names, AllNames}
use Rattle.words.specs.Rows.{letters_at, places_at, row_of}
use Rattle.words.specs.Places.{letter_at, after, fits}
use Rattle.words.specs.Options.{option_of, form_of, flag, to_stage, bad, put_one}
use Rattle.words.specs.Words.{dash, is_name, chosen, named, heard_last, heard_letter, heard_option, heard}

pub empty_name : (w : List ℕ) → length w ≡ 0 → true ≡ is_name w
unfolding is_name
empty_name [] none = refl
empty_name (b ∷ w) none = absurd (omega arith)

module _ (t : List ℕ) (s : Said) (w : List ℕ) where
  pub no-task : {i : ℕ} → i ≡ row_of t w → length t ≤ i → {r : Said} → r ≡ bad s → r ≡ chosen t s w
  unfolding chosen
  no-task row past lost = rw (← row, le-ltb _ _ past, lost)

  pub a-task :
      {i : ℕ} → i ≡ row_of t w → i < length t → record { stage = Options; row = i; spot = s.spot; values = s.values } ≡ chosen t s w
  unfolding chosen
  a-task row some = rw (← row, lt-ltb _ _ some)

  module _ (n : Stage) {p : List ℕ} (places : p ≡ places_at t s.row) {c : ℕ} (letter : c ≡ letter_at p s.spot) {b : Bool}
      (asked : b ≡ fits c w) where
    pub no-fit : b ≡ false → {r : Said} → r ≡ bad s → r ≡ named t s n w
    unfolding named
    no-fit not lost = rw (← places, ← letter, ← asked, not, lost)

    pub a-fit :
        b ≡ true → {x : Spot} → x ≡ after p s.spot
        → record { stage = n; row = s.row; spot = x; values = s.values } ≡ named t s n w
    unfolding named
    a-fit is next = rw (← places, ← letter, ← asked, is, next)

  module _ {b : Bool} (asked : b ≡ is_name w) {r : Said} where
    pub last_name : b ≡ true → r ≡ named t s Names w → r ≡ heard_last t s w
    unfolding heard_last
    last_name is put = rw (← asked, is, put)

    module _ (not : b ≡ false) {d : Bool} (other : d ≡ same_text w (dash ∷ dash ∷ [])) where
      pub last-bad : d ≡ false → r ≡ bad s → r ≡ heard_last t s w
      unfolding heard_last
      last-bad nor lost = rw (← asked, not, ← other, nor, lost)

      pub last-dashes : d ≡ true → r ≡ to_stage AllNames s → r ≡ heard_last t s w
      unfolding heard_last
      last-dashes is put = rw (← asked, not, ← other, is, put)

module _ (o t : List ℕ) (s : Said) (c : ℕ) {k : ℕ} (option : k ≡ option_of o c) {r : Said} where
  pub letter-unknown : 8 ≤ k → r ≡ bad s → r ≡ heard_letter o t s c
  unfolding heard_letter
  letter-unknown past lost = rw (← option, le-ltb _ _ past, lost)

  module _ (known : k < 8) {b : Bool} (asked : b ≡ stands_in (c ∷ []) (letters_at t s.row)) where
    pub letter-not-taken : b ≡ false → r ≡ bad s → r ≡ heard_letter o t s c
    unfolding heard_letter
    letter-not-taken not lost = rw (← option, lt-ltb _ _ known, ← asked, not, lost)

    module _ (is : b ≡ true) {f : ℕ} (form : f ≡ form_of o k) where
      pub letter-flag : f ≡ flag → r ≡ put_one o s k 1 → r ≡ heard_letter o t s c
      unfolding heard_letter
      letter-flag alone put = rw (← option, lt-ltb k 8 known, ← asked, is, ← form, eq-eqb _ _ alone, put)

      pub letter-value : (f ≡ flag → ⊥) → r ≡ to_stage (Value k) s → r ≡ heard_letter o t s c
      unfolding heard_letter
      letter-value more put = rw (← option, lt-ltb k 8 known, ← asked, is, ← form, ne_eqb _ _ more, put)

module _ (o t : List ℕ) (s : Said) (w : List ℕ) {r : Said} where
  pub not-two : (length w ≡ 2 → ⊥) → r ≡ heard_last t s w → r ≡ heard_option o t s w
  unfolding heard_option
  not-two other put = rw (ne_eqb _ _ other, put)

  module _ (two : length w ≡ 2) where
    pub not-dash : (get_or w 0 0 ≡ dash → ⊥) → r ≡ heard_last t s w → r ≡ heard_option o t s w
    unfolding heard_option
    not-dash other put = rw (eq-eqb _ _ two, ne_eqb _ _ other, put)

    pub two-dashes : get_or w 0 0 ≡ dash → get_or w 1 0 ≡ dash → r ≡ heard_last t s w → r ≡ heard_option o t s w
    unfolding heard_option
    two-dashes first second put = rw (eq-eqb _ _ two, eq-eqb _ _ first, eq-eqb _ _ second, put)

    pub an-option :
        get_or w 0 0 ≡ dash → (get_or w 1 0 ≡ dash → ⊥) → r ≡ heard_letter o t s (get_or w 1 0) → r ≡ heard_option o t s w
    unfolding heard_option
    an-option first other put = rw (eq-eqb _ _ two, eq-eqb _ _ first, ne_eqb _ _ other, put)

-- ---- by what may come next

module _ (t : List ℕ) (s : Said) (w : List ℕ) {n m : Stage} (here : n ≡ m) where
  pub heard-at : (o : List ℕ) {r : Said} → r ≡ heard o t s w m → r ≡ heard o t s w n
  heard-at o next = rw (here, next)

-- a test the other way round, as a choice
pub not_is : (b : Bool) → not b ≡ pick b false true
not_is true = refl
not_is false = refl
