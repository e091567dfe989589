-- A number's decimal digits: they are its own, and set one by one from the last on they are those. Assumes nothing.
use mathlib.Core.Path.{◌≡◌, ◌∙◌, refl, sym}
use mathlib.Core.Bool.{Bool, true, false}
use mathlib.Core.List.{List, [], ◌∷◌, ◌++◌, append_assoc}
use Prim.Native.Nat.{ℕ, zero, suc, ◌+◌, ◌-◌, ◌*◌, ◌/◌, ◌%◌, ◌^◌, ◌≤◌, ◌<◌}
use native.Mathlib.Nat.{mod-eq_of_lt}
use native.Mathlib.Decide.{dec_lt}
use native.Mathlib.Omega.{arith}
use borrow.Author.Tests.{lt-ltb, le-ltb, ltb-false}
use lib.Dec.{ltb}
use lib.ListN.{length, take, drop, set, length-append, length-take, length-drop}
use lib.Seq.{drop-cons, lt-length-set, get_or-set_same, drop-set-lt, take_all}
use Rattle.laws.specs.Pick.{pick}
use Rattle.laws.proofs.Countdown.{at_more}
use Rattle.text_lines.specs.Put.{Put, last, placed}
use Rattle.text_lines.specs.Lines.{digits_in, digit_most, decimal}
use Rattle.text_lines.proofs.Putting.{put_as, put-at}

-- ---- the digits are the number's

-- the number that digits stand for, behind those of a
unfoldable pub valued : ℕ → List ℕ → ℕ
valued a [] = a
valued a (d ∷ ds) = valued (a * 10 + (d - 48)) ds

valued-append : (a : ℕ) (xs ys : List ℕ) → valued a (xs ++ ys) ≡ valued (valued a xs) ys
unfolding valued
valued-append a [] ys = refl
valued-append a (x ∷ xs) ys = valued-append (a * 10 + (x - 48)) xs ys

digits_valued : (k n : ℕ) → n < 10 ^ k → valued 0 (digits_in k n) ≡ n
unfolding digits_in valued
digits_valued zero n h = omega arith
digits_valued (suc k) n h =
    elim (dec_lt n 10) [
      | yes g ↦ rw (lt-ltb n 10 g) (omega arith)
      | no g ↦
          let more = digits_valued k (n / 10) (omega arith) in
          rw (le-ltb n 10 (omega arith), valued-append 0 (digits_in k (n / 10)) ((48 + n % 10) ∷ []), more) (omega arith)
    ]

-- each number of 64 bits is read back from its digits
pub decimal-valued : (n : ℕ) → n < 2 ^ 64 → valued 0 (decimal n) ≡ n
decimal-valued n h = digits_valued digit_most n (omega arith)

-- ---- set from the last on

-- a number of two digits or more, and its tenth
pub tenth : (at m : ℕ) → 10 ≤ m → m < 10 ^ at → (2 ≤ at) × (m / 10 < 10 ^ (at - 1))
tenth zero m h l = absurd (omega arith)
tenth (suc zero) m h l = absurd (omega arith)
tenth (suc (suc k)) m h l = let e : suc (suc k) - 1 ≡ suc k = omega arith in (omega arith, rw e (omega arith))

-- a number below 10 to the j has at most j digits
pub digits_few : (k j n : ℕ) → n < 10 ^ suc j → length (digits_in k n) ≤ suc j
unfolding digits_in
digits_few zero j n h = omega arith
digits_few (suc k) j n h = go (ltb n 10) j h refl (λ i. digits_few k i (n / 10))
  where
    go :
        (t : Bool) (i : ℕ) → n < 10 ^ suc i → ltb n 10 ≡ t → ((o : ℕ) → n / 10 < 10 ^ suc o → length (digits_in k (n / 10)) ≤ suc o)
        → length (pick t [] (digits_in k (n / 10)) ++ ((48 + n % 10) ∷ [])) ≤ suc i
    go true i l e f = omega arith
    go false zero l e f = absurd (omega (arith, ltb-false n 10 e))
    go false (suc i) l e f = simp length-append (omega (arith, f i (omega arith)))

module _ (line : List ℕ) (at m : ℕ) (some : 0 < at) (inside : at ≤ length line) where
  stored : (b : ℕ) → drop (at - 1) (set line (at - 1) b) ≡ b ∷ drop (suc (at - 1)) line
  stored b =
      let k : at - 1 < length line = omega arith in
      rw (drop-cons (set line (at - 1) b) (at - 1) 0 (lt-length-set line (at - 1) b k), get_or-set_same line (at - 1) b 0 k, drop-set-lt (suc (at - 1)) line (at - 1) b (omega arith))

  -- a digit is set, and the tenth's are left
  pub digit_set : 10 ≤ m → digits_in (at - 1) (m / 10) ++ drop (at - 1) (set line (at - 1) (48 + m % 10)) ≡ digits_in at m ++ drop at line
  unfolding digits_in
  digit_set h = rw (stored (48 + m % 10)) (sym (at_more (λ (k : ℕ). digits_in k m ++ drop k line) at some ∙ (rw (le-ltb m 10 h, append_assoc))))

  -- the number's first digit is set last
  pub first-set : m < 10 → drop (at - 1) (set line (at - 1) (48 + m)) ≡ digits_in at m ++ drop at line
  unfolding digits_in
  first-set h = rw (stored (48 + m)) (sym (at_more (λ (k : ℕ). digits_in k m ++ drop k line) at some ∙ (rw (lt-ltb m 10 h, mod-eq_of_lt h))))

-- ---- put

-- what a line holds from a place on, as the checker reads it of a line of n bytes
pub rest-length : (line : List ℕ) (n from : ℕ) → length (take (n - from) (drop from line)) ≤ n
rest-length line n from = simp length-take (omega arith)

pub put_rest :
    (line whole : List ℕ) (n from : ℕ) {out out' : List ℕ} {q q' : ℕ} → length line ≡ n → q + n ≤ last → drop from line ≡ whole
    → Put out q (placed q (take (n - from) (drop from line))) out' q'
    → Put out q whole out' q'
put_rest line whole n from h l e p =
    let all : length (drop from line) ≤ n - from = simp length-drop (omega arith) in
    put_as (take_all (n - from) (drop from line) all ∙ e) (put-at (omega (arith, rest-length line n from)) p)
