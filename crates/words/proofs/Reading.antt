-- How a word's characters are read, one after the other. Assumes nothing.
use mathlib.Core.Path.{◌≡◌}
use mathlib.Core.List.{List}
use Prim.Native.Nat.{ℕ, ◌+◌, ◌*◌, ◌≤◌, ◌<◌}
use native.Mathlib.Numerals.{add-one}
use borrow.Author.Tests.{lt-ltb, le-ltb, le-leb, lt-leb, eq-eqb, ne_eqb}
use lib.ListN.{length, drop, get_or, drop_of_length-le}
use lib.Seq.{drop-cons}
use Rattle.words.specs.Numbers.{digit_of, decimal_from, decimal_of, number_of, hex_pair_of, no_number, most}

module _ (w : List ℕ) (i n : ℕ) {d : ℕ} (within : i < length w) (here : d ≡ digit_of (get_or w i 0)) where
  -- one digit more
  pub digit-taken : d < 10 → 10 * n + d ≤ most → decimal_from (drop (i + 1) w) (10 * n + d) ≡ decimal_from (drop i w) n
  unfolding decimal_from
  digit-taken small few = rw (add-one, drop-cons w i 0, ← here, lt-ltb _ _ small, le-leb _ _ few)

  pub digit-bad : 10 ≤ d → decimal_from (drop i w) n ≡ no_number
  unfolding decimal_from
  digit-bad bad = rw (drop-cons w i 0, ← here, le-ltb _ _ bad)

  pub too_large : d < 10 → most < 10 * n + d → decimal_from (drop i w) n ≡ no_number
  unfolding decimal_from
  too_large small many = rw (drop-cons w i 0, ← here, lt-ltb _ _ small, lt-leb _ _ many)

pub digits_end : (w : List ℕ) (i n : ℕ) → length w ≤ i → decimal_from (drop i w) n ≡ n
unfolding decimal_from
digits_end w i n past = rw (drop_of_length-le w past)

module _ (w : List ℕ) {n : ℕ} (said : n ≡ decimal_of w) where
  pub short-number : length w ≤ 1 → n ≡ number_of w
  unfolding number_of
  short-number short = rw (le-ltb 1 (length w) short, said)

  -- no leading zero
  pub other-number : 1 < length w → (get_or w 0 0 ≡ 48 → ⊥) → n ≡ number_of w
  unfolding number_of
  other-number long other = rw (lt-ltb _ _ long, ne_eqb _ _ other, said)

pub leading_zero : (w : List ℕ) → 1 < length w → get_or w 0 0 ≡ 48 → no_number ≡ number_of w
unfolding number_of
leading_zero w long zero = rw (lt-ltb _ _ long, eq-eqb _ _ zero)

module _ (w : List ℕ) {high low : ℕ} (two : length w ≡ 2) (first : high ≡ digit_of (get_or w 0 0)) (second : low ≡ digit_of (get_or w 1 0)) where
  pub first-bad : 16 ≤ high → no_number ≡ hex_pair_of w
  unfolding hex_pair_of
  first-bad bad = rw (eq-eqb _ _ two, ← first, le-ltb _ _ bad)

  pub second-bad : high < 16 → 16 ≤ low → no_number ≡ hex_pair_of w
  unfolding hex_pair_of
  second-bad one bad = rw (eq-eqb _ _ two, ← first, ← second, lt-ltb _ _ one, le-ltb _ _ bad)

  pub both-good : high < 16 → low < 16 → 16 * high + low ≡ hex_pair_of w
  unfolding hex_pair_of
  both-good one other = rw (eq-eqb _ _ two, ← first, ← second, lt-ltb _ _ one, lt-ltb _ _ other)
