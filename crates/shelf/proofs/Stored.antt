-- What stands where bytes were stored in a row, and three of them as a number. Assumes nothing.
use mathlib.Core.Path.{◌≡◌, ◌∙◌, refl}
use mathlib.Core.List.{List, [], ◌∷◌, ◌++◌}
use Prim.Native.Nat.{ℕ, zero, suc, ◌+◌, ◌*◌, ◌/◌, ◌%◌, ◌≤◌, ◌<◌}
use native.Mathlib.Nat.{add-zero}
use native.Mathlib.Omega.{arith}
use lib.ListN.{length, get_or, set, replicate, length-set}
use lib.Seq.{sets, get_or-set_same, get_or-set_other}
use Rattle.shelf.specs.Shelf.{three, three_of}
use Rattle.shelf.specs.Putting.{shelf_most}

-- ---- a byte before the row, behind it, and in it

pub sets_left : (l : List ℕ) (i : ℕ) (xs : List ℕ) (j : ℕ) → j < i → get_or (sets l i xs) j 0 ≡ get_or l j 0
sets_left l i [] j h = refl
sets_left l i (x ∷ xs) j h = sets_left (set l i x) (suc i) xs j (omega arith) ∙ get_or-set_other l i j x 0 (λ e. omega arith)

pub sets_right : (l : List ℕ) (i : ℕ) (xs : List ℕ) (j : ℕ) → i + length xs ≤ j → get_or (sets l i xs) j 0 ≡ get_or l j 0
sets_right l i [] j h = refl
sets_right l i (x ∷ xs) j h = sets_right (set l i x) (suc i) xs j (omega arith) ∙ get_or-set_other l i j x 0 (λ e. omega arith)

pub sets_at :
    (l : List ℕ) (i : ℕ) (xs : List ℕ) (k : ℕ) → k < length xs → i + length xs ≤ length l → get_or (sets l i xs) (i + k) 0 ≡ get_or xs k 0
sets_at l i [] k h m = absurd (omega arith)
sets_at l i (x ∷ xs) zero h m = rw add-zero (sets_left (set l i x) (suc i) xs i (omega arith) ∙ get_or-set_same l i x 0 (omega arith))
sets_at l i (x ∷ xs) (suc k) h m =
    let e : i + suc k ≡ suc i + k = omega arith in
    rw e (sets_at (set l i x) (suc i) xs k (omega arith) (rw length-set (omega arith)))

-- ---- three bytes

three_of_lem : (l : List ℕ) (at a b c : ℕ) → get_or l at 0 ≡ a → get_or l (at + 1) 0 ≡ b → get_or l (at + 2) 0 ≡ c → three l at ≡ a + 256 * b + 65536 * c
unfolding three
three_of_lem l at a b c e f g = rw (e, f, g)

three-whole : (v : ℕ) → v ≤ shelf_most → v % 256 + 256 * (v / 256 % 256) + 65536 * (v / 256 / 256 % 256) ≡ v
three-whole v h = omega arith

-- the number that was stored, whatever is stored behind it
pub three-stored :
    (l : List ℕ) (at v : ℕ) (more : List ℕ) → at + (3 + length more) ≤ length l → v ≤ shelf_most
    → three (sets l at (three_of v ++ more)) at ≡ v
unfolding three_of
three-stored l at v more h k =
    let xs = three_of v ++ more in
    let z = sets_at l at xs 0 (omega arith) (omega arith) in
    three_of_lem (sets l at xs) at _ _ _ (rw add-zero at z) (sets_at l at xs 1 (omega arith) (omega arith)) (sets_at l at xs 2 (omega arith) (omega arith))
    ∙ three-whole v k

pub three-before : (l : List ℕ) (at : ℕ) (xs : List ℕ) (other : ℕ) → other + 3 ≤ at → three (sets l at xs) other ≡ three l other
unfolding three
three-before l at xs other h =
    rw (sets_left l at xs other (omega arith), sets_left l at xs (other + 1) (omega arith), sets_left l at xs (other + 2) (omega arith))

pub three-behind : (l : List ℕ) (at : ℕ) (xs : List ℕ) (other : ℕ) → at + length xs ≤ other → three (sets l at xs) other ≡ three l other
unfolding three
three-behind l at xs other h =
    rw (sets_right l at xs other (omega arith), sets_right l at xs (other + 1) (omega arith), sets_right l at xs (other + 2) (omega arith))

zeros-at : (n i : ℕ) → ◌≡◌ {A = ℕ} (get_or (replicate n 0) i 0) 0
zeros-at zero i = refl
zeros-at (suc n) zero = refl
zeros-at (suc n) (suc i) = zeros-at n i

pub three-zeros : (n at : ℕ) → three (replicate n 0) at ≡ 0
unfolding three
three-zeros n at = rw (zeros-at n at, zeros-at n (at + 1), zeros-at n (at + 2))
