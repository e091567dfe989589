-- Laws of string bytes: a test that antt computes at every byte and hands out at each; and how a pass along a string finds the bytes of
-- right parity. Assumes nothing.
use mathlib.Core.Path.{◌≡◌, refl, sym, subst}
use mathlib.Core.Bool.{Bool, true, false}
use mathlib.Core.List.{List, [], ◌∷◌}
use Prim.Native.Nat.{ℕ, zero, suc, ◌+◌, ◌%◌, ◌<◌, ◌≤◌, zero-le, suc-le-suc}
use native.Mathlib.Numerals.{add-one}
use native.Mathlib.Nat.{le_refl, add-zero, le_of_suc-le-suc, not-suc-le-zero}
use native.Mathlib.Omega.{arith}
use borrow.Author.Tests.{eq-eqb}
use lib.Dec.{T, eqb, eqb→eq}
use lib.ListN.{length, get_or, drop, drop_of_length-le}
use lib.Seq.{drop-cons}
use lib.Count.{ones as count_ones}
use Rattle.laws.specs.Pick.{pick}
use Rattle.laws.proofs.Whole.{all-at}
use Rattle.parity.specs.Parity.{ones, is_odd, letter, odds}

-- the ones of a byte, as the library counts them
pub ones_counted : (b : ℕ) → b < 256 → count_ones b % 2 ≡ ones 8 b % 2
unfolding ones count_ones
ones_counted b h = eqb→eq _ _ (all-at (λ (x : ℕ). eqb (count_ones x % 2) (ones 8 x % 2)) 256 tt b h)

-- the byte of a code by the parity of its seven bits
pub letter_by : (c : ℕ) → c < 256 → letter c ≡ c % 128 + pick (is_odd (c % 128)) 0 128
unfolding letter is_odd ones
letter_by c h = eqb→eq _ _ (all-at (λ (x : ℕ). eqb (letter x) (x % 128 + pick (is_odd (x % 128)) 0 128)) 256 tt c h)

-- a code's byte is of right parity, and has that code
pub letter-odd : (c : ℕ) → c < 128 → is_odd (letter c) ≡ true
unfolding letter is_odd ones
letter-odd c h = eq-eqb _ 1 (eqb→eq (ones 8 (letter c) % 2) 1 (all-at (λ (x : ℕ). is_odd (letter x)) 128 tt c h))

pub letter-code : (c : ℕ) → c < 128 → letter c % 128 ≡ c
unfolding letter ones
letter-code c h = eqb→eq _ _ (all-at (λ (x : ℕ). eqb (letter x % 128) x) 128 tt c h)

-- and a byte of right parity is that of its code
pub odd-letter : (b : ℕ) → b < 256 → is_odd b ≡ true → letter (b % 128) ≡ b
unfolding letter is_odd ones
odd-letter b h o =
    eqb→eq _ _
    (subst (λ (t : Bool). T (pick t (eqb (letter (b % 128)) b) true)) o
    (all-at (λ (x : ℕ). pick (is_odd x) (eqb (letter (x % 128)) x) true) 256 tt b h))

-- ---- the bytes of right parity

pub odds_le : (bs : List ℕ) → odds bs ≤ length bs
unfolding odds
odds_le [] = le_refl 0
odds_le (b ∷ bs) = go (is_odd b) (odds_le bs)
  where
    go : (t : Bool) → odds bs ≤ length bs → pick t (suc (odds bs)) 0 ≤ suc (length bs)
    go true h = suc-le-suc h
    go false h = zero-le

-- where all are, so is each by itself
pub odds-at : (bs : List ℕ) (k : ℕ) → odds bs ≡ length bs → k < length bs → is_odd (get_or bs k 0) ≡ true
unfolding odds
odds-at [] k h l = absurd (not-suc-le-zero l)
odds-at (b ∷ bs) k h l = go k (is_odd b) refl h l (λ (j : ℕ). odds-at bs j)
  where
    go :
        (k : ℕ) (t : Bool) → is_odd b ≡ t → pick t (suc (odds bs)) 0 ≡ suc (length bs) → k < suc (length bs)
        → ((j : ℕ) → odds bs ≡ length bs → j < length bs → is_odd (get_or bs j 0) ≡ true)
        → is_odd (get_or (b ∷ bs) k 0) ≡ true
    go zero true e h' l' ih = e
    go (suc j) true e h' l' ih = ih j (omega arith) (le_of_suc-le-suc l')
    go k false e h' l' ih = absurd (omega arith)

pub odds-step : (s : List ℕ) (i : ℕ) → i < length s → is_odd (get_or s i 0) ≡ true → i + 1 + odds (drop (i + 1) s) ≡ i + odds (drop i s)
unfolding odds
odds-step s i h k = rw (add-one i, drop-cons s i 0 h, k) (omega arith)

pub odds-stop : (s : List ℕ) (i : ℕ) → i < length s → is_odd (get_or s i 0) ≡ false → i ≡ i + odds (drop i s)
unfolding odds
odds-stop s i h k = rw (drop-cons s i 0 h, k) (sym (add-zero i))

pub odds-end : (s : List ℕ) (i : ℕ) → length s ≤ i → i ≡ i + odds (drop i s)
unfolding odds
odds-end s i h = rw (drop_of_length-le s h) (sym (add-zero i))
