-- A header, nibble by nibble. Assumes nothing.
use mathlib.Core.Path.{◌≡◌}
use Prim.Native.Nat.{ℕ, suc, ◌+◌, ◌-◌, ◌*◌, ◌/◌, ◌%◌, ◌≤◌, ◌<◌}
use mathlib.Core.List.{List}
use native.Mathlib.Numerals.{add-one}
use native.Mathlib.Omega.{arith}
use lib.ListN.{length, get_or, drop, drop_of_length-le}
use lib.Seq.{drop-cons}
use borrow.Author.Tests.{eq-eqb, ne_eqb}
use Rattle.octet.specs.Decoding.{nib}
use Rattle.octet.specs.Hearing.{mark}
use Rattle.octet.proofs.Laws.{nib_le}
use Rattle.octet.proofs.Hearing.{harm_le, mark-nib, mark-harm}
use Rattle.walk.specs.Places.{broken, cut, whole, heads}

-- a mark is a nibble, or 16, and one bit more
pub marked : (m b : ℕ) → m ≡ mark b → (m % 32 ≤ 16) × (m / 32 ≤ 1)
marked m b q = (omega (arith, mark-nib m b q, nib_le b), omega (arith, mark-harm m b q, harm_le b))

-- g nibbles of it have come, and the mark m of one more
pub head_on :
    (l : List ℕ) (i g v part m : ℕ) → i < length l → g < 4 → m ≡ mark (get_or l i 0) → (m % 32 ≡ 16 → ⊥)
    → heads (4 - (g + 1)) (v / 16 + m % 32 * 4096) (part + m / 32) (drop (i + 1) l) ≡ heads (4 - g) v part (drop i l)
unfolding heads
head_on l i g v part m h k q e =
    let p : 4 - g ≡ suc (4 - (g + 1)) = omega arith in
    let n = mark-nib m (get_or l i 0) q in
    let w = mark-harm m (get_or l i 0) q in
    rw (p, drop-cons l i 0, ← n, ne_eqb _ _ e, ← w, add-one i)

pub head-broken :
    (l : List ℕ) (i g v part : ℕ) → i < length l → g < 4 → nib (get_or l i 0) ≡ 16 → heads (4 - g) v part (drop i l) ≡ broken
unfolding heads
head-broken l i g v part h k e =
    let p : 4 - g ≡ suc (3 - g) = omega arith in
    rw (p, drop-cons l i 0, eq-eqb _ _ e)

pub head-cut : (l : List ℕ) (i g v part : ℕ) → length l ≤ i → g < 4 → heads (4 - g) v part (drop i l) ≡ cut g v part
unfolding heads
head-cut l i g v part h k =
    let p : 4 - g ≡ suc (3 - g) = omega arith in
    let q : 3 - (3 - g) ≡ g = omega arith in
    rw (p, drop_of_length-le, q)

pub head-whole : (l : List ℕ) (i g v part : ℕ) → 4 ≤ g → heads (4 - g) v part (drop i l) ≡ whole v part (drop i l)
unfolding heads
head-whole l i g v part k = let p : 4 - g ≡ 0 = omega arith in rw p
