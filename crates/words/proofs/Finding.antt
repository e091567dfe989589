-- How a text is searched, byte by byte, and the options one by one. Assumes nothing.
use mathlib.Core.Path.{◌≡◌, ◌∙◌, ap, sym}
use mathlib.Core.Bool.{Bool, true, false}
use mathlib.Core.List.{List, [], ◌∷◌}
use Prim.Native.Nat.{ℕ, suc, ◌+◌, ◌-◌, ◌≤◌, ◌<◌}
use native.Mathlib.Numerals.{add-one}
use native.Mathlib.Omega.{arith}
use borrow.Author.Tests.{eq-eqb, ne_eqb}
use lib.Dec.{eqb}
use lib.ListN.{length, take, drop, get_or, drop_of_length-le}
use lib.Seq.{drop-cons}
use Rattle.laws.specs.Pick.{both}
use Rattle.laws.proofs.Lists.{part-rest}
use Rattle.texts.specs.Texts.{same_text}
use Rattle.words.specs.Rows.{before, up_to, behind, row_from, space, line_end}
use Rattle.words.specs.Options.{letter_of, option_from}

-- ---- the first of a byte

module _ (b : ℕ) (t : List ℕ) (i : ℕ) (within : i < length t) where
  pub byte_here : get_or t i 0 ≡ b → i + before b (drop i t) ≡ i
  unfolding before
  byte_here here = rw (drop-cons t i 0, eq-eqb _ _ here) (omega arith)

  pub byte-further : (get_or t i 0 ≡ b → ⊥) → i + 1 + before b (drop (i + 1) t) ≡ i + before b (drop i t)
  unfolding before
  byte-further other = rw (add-one, drop-cons t i 0, ne_eqb _ _ other) (omega arith)

pub no_byte : (b : ℕ) (t : List ℕ) (i : ℕ) → length t ≤ i → i + before b (drop i t) ≡ i
unfolding before
no_byte b t i past = rw (drop_of_length-le t past) (omega arith)

module _ (b : ℕ) (t : List ℕ) {n : ℕ} (first : n ≡ before b t) where
  pub part-up-to : take (n - 0) (drop 0 t) ≡ up_to b t
  unfolding up_to
  part-up-to = let e : n - 0 ≡ n = omega arith in rw (e, first)

  pub part-behind : take (length t - (n + 1)) (drop (n + 1) t) ≡ behind b t
  unfolding behind
  part-behind = part-rest (n + 1) t ∙ ap (λ (k : ℕ). drop (k + 1) t) first

  pub none-behind : length t ≤ n → [] ≡ behind b t
  unfolding behind
  none-behind past = let h : length t ≤ n + 1 = omega arith in rw (← first) (sym (drop_of_length-le t h))

-- ---- the row of a word

module _ (t w : List ℕ) (i : ℕ) (begins : Bool) {b : Bool} (within : i < length t)
    (asked : b ≡ both begins (same_text w (up_to space (drop i t)))) where
  front : b ≡ both begins (same_text w (up_to space (get_or t i 0 ∷ drop (suc i) t)))
  front = asked ∙ ap (λ (l : List ℕ). both begins (same_text w (up_to space l))) (drop-cons t i 0 within)

  pub row_here : b ≡ true → row_from (drop i t) begins i w ≡ i
  unfolding row_from
  row_here here = rw (drop-cons t i 0, ← front, here)

  pub row-further : b ≡ false → row_from (drop (i + 1) t) (eqb (get_or t i 0) line_end) (i + 1) w ≡ row_from (drop i t) begins i w
  unfolding row_from
  row-further not = rw (add-one, drop-cons t i 0, ← front, not)

pub no_row : (t w : List ℕ) (i : ℕ) (begins : Bool) → length t ≤ i → row_from (drop i t) begins i w ≡ i
unfolding row_from
no_row t w i begins past = rw (drop_of_length-le t past)

-- ---- the option of a letter

module _ (o : List ℕ) (c k : ℕ) {x : ℕ} (here : x ≡ letter_of o k) (few : k < 8) where
  one_more : 8 - k ≡ suc (8 - suc k)
  one_more = omega arith

  pub option-here : x ≡ c → option_from (8 - k) k o c ≡ k
  unfolding option_from
  option-here same = rw (one_more, ← here, eq-eqb _ _ same)

  pub option-further : (x ≡ c → ⊥) → option_from (8 - (k + 1)) (k + 1) o c ≡ option_from (8 - k) k o c
  unfolding option_from
  option-further other = rw (add-one, one_more, ← here, ne_eqb _ _ other)

pub no_option : (o : List ℕ) (c k : ℕ) → 8 ≤ k → option_from (8 - k) k o c ≡ k
unfolding option_from
no_option o c k past = let e : 8 - k ≡ 0 = omega arith in rw e
