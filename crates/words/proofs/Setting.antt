-- What a value does to what was said. Assumes nothing.
use mathlib.Core.Path.{◌≡◌}
use mathlib.Core.Bool.{Bool, true, false}
use mathlib.Core.List.{List}
use Prim.Native.Nat.{ℕ, ◌≤◌, ◌<◌}
use native.Mathlib.Omega.{arith}
use borrow.Author.Tests.{lt-ltb, le-ltb, lt-leb, le-leb, eq-eqb, ne_eqb}
use lib.Dec.{leb}
use lib.ListN.{length}
use Rattle.words.specs.declared.Said.{Said}
use Rattle.words.specs.Rows.{before, up_to, behind}
use Rattle.words.specs.Numbers.{decimal_of, hex_pair_of}
use Rattle.words.specs.Options.{least_of, greatest_of, form_of, hex_pair, pair, comma, no_value, bad, is_in, kept, put_one, put_two, said_by}

pub untrue : {A : Type 0} → false ≡ true → A
untrue h = let z : ◌≡◌ {A = ℕ} 0 1 = cc in absurd (omega arith)

module _ (o : List ℕ) (k n : ℕ) where
  pub out-of-options : 8 ≤ k → false ≡ is_in o k n
  unfolding is_in
  out-of-options past = rw (le-ltb _ _ past)

  module _ (known : k < 8) {l : ℕ} (least : l ≡ least_of o k) where
    pub below-least : n < l → false ≡ is_in o k n
    unfolding is_in
    below-least low = rw (lt-ltb k 8 known, ← least, lt-leb _ _ low)

    pub from-least : l ≤ n → {g : ℕ} → g ≡ greatest_of o k → leb n g ≡ is_in o k n
    unfolding is_in
    from-least high greatest = rw (lt-ltb k 8 known, ← least, le-leb _ _ high, greatest)

module _ (o : List ℕ) (s : Said) (k n : ℕ) {b : Bool} (asked : b ≡ is_in o k n) where
  pub one_out : b ≡ false → {r : Said} → r ≡ bad s → r ≡ put_one o s k n
  unfolding put_one
  one_out out lost = rw (← asked, out, lost)

  pub one_in : b ≡ true → {r : Said} → r ≡ kept s k n no_value → r ≡ put_one o s k n
  unfolding put_one
  one_in is put = rw (← asked, is, put)

  pub first_out : (m : ℕ) → b ≡ false → {r : Said} → r ≡ bad s → r ≡ put_two o s k n m
  unfolding put_two
  first_out m out lost = rw (← asked, out, lost)

  module _ (m : ℕ) (one : b ≡ true) {d : Bool} (other : d ≡ is_in o k m) where
    pub second-out : d ≡ false → {r : Said} → r ≡ bad s → r ≡ put_two o s k n m
    unfolding put_two
    second-out out lost = rw (← asked, one, ← other, out, lost)

    pub same-twice : d ≡ true → n ≡ m → {r : Said} → r ≡ bad s → r ≡ put_two o s k n m
    unfolding put_two
    same-twice too same lost = rw (← asked, one, ← other, too, eq-eqb _ _ same, lost)

    pub two_in : d ≡ true → (n ≡ m → ⊥) → {r : Said} → r ≡ kept s k n m → r ≡ put_two o s k n m
    unfolding put_two
    two_in too differ put = rw (← asked, one, ← other, too, ne_eqb _ _ differ, put)

module _ (o : List ℕ) (s : Said) (k : ℕ) (w : List ℕ) {f : ℕ} (form : f ≡ form_of o k) {r : Said} {n : ℕ} where
  pub said-hex : f ≡ hex_pair → n ≡ hex_pair_of w → r ≡ put_one o s k n → r ≡ said_by o s k w
  unfolding said_by
  said-hex is number put = rw (← form, eq-eqb _ _ is, put, number)

  module _ (not : f ≡ hex_pair → ⊥) where
    pub said-decimal : (f ≡ pair → ⊥) → n ≡ decimal_of w → r ≡ put_one o s k n → r ≡ said_by o s k w
    unfolding said_by
    said-decimal nor number put = rw (← form, ne_eqb _ _ not, ne_eqb _ _ nor, put, number)

    module _ (is : f ≡ pair) {i : ℕ} (first : i ≡ before comma w) where
      pub said-one : length w ≤ i → n ≡ decimal_of w → r ≡ put_one o s k n → r ≡ said_by o s k w
      unfolding said_by
      said-one none number put = rw (← form, ne_eqb _ _ not, eq-eqb _ _ is, ← first, le-ltb _ _ none, put, number)

      pub said-two :
          i < length w → n ≡ decimal_of (up_to comma w) → {m : ℕ} → m ≡ decimal_of (behind comma w) → r ≡ put_two o s k n m → r ≡ said_by o s k w
      unfolding said_by
      said-two some number second put =
          rw (← form, ne_eqb _ _ not, eq-eqb _ _ is, ← first, lt-ltb _ _ some, put, number, second)
