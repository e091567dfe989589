-- The nibbles of a block: where all decode they are those of the number that they make. Assumes nothing.
use mathlib.Core.Path.{◌≡◌, ◌∙◌, refl, ap, ap₂}
use mathlib.Core.Bool.{Bool, true, false}
use mathlib.Core.List.{List, [], ◌∷◌, map}
use Prim.Native.Nat.{ℕ, zero, suc, ◌/◌, ◌%◌, ◌^◌, ◌≤◌, ◌<◌}
use native.Mathlib.Nat.{mod-mod, le_of_suc-le-suc, not-suc-le-zero}
use native.Mathlib.Omega.{arith}
use borrow.Author.Tests.{ltb-true, lt-ltb}
use lib.Dec.{ltb}
use lib.ListN.{length, get_or, take, drop}
use lib.Pow.{shr-shr}
use Rattle.laws.specs.Pick.{pick}
use Rattle.octet.specs.Image.{image}
use Rattle.octet.specs.Decoding.{nib}
use Rattle.octet.proofs.Laws.{nib-image}
use Rattle.fields.specs.Fields.{parts, whole}
use Rattle.fields.proofs.Laid.{parts_whole}
use Rattle.blocks.specs.Sums.{sound}

-- ---- nibbles that decode

lowered : (ns : List ℕ) → sound ns ≡ length ns → map (λ (x : ℕ). x % 2 ^ 4) ns ≡ ns
unfolding sound
lowered [] h = refl
lowered (n ∷ ns) h = go (ltb n 16) refl h (lowered ns)
  where
    go :
        (b : Bool) → ltb n 16 ≡ b → pick b (suc (sound ns)) 0 ≡ suc (length ns)
        → (sound ns ≡ length ns → map (λ (x : ℕ). x % 2 ^ 4) ns ≡ ns)
        → n % 2 ^ 4 ∷ map (λ (x : ℕ). x % 2 ^ 4) ns ≡ n ∷ ns
    go true e h' ih =
        let small : n < 16 = ltb-true n 16 e in
        ap₂ (λ (x : ℕ) (xs : List ℕ). x ∷ xs) (omega arith) (ih (omega arith))
    go false e h' ih = absurd (omega arith)

-- where all decode, the nibbles are those of the number that they make
pub sound-parts : (ns : List ℕ) → sound ns ≡ length ns → parts 4 (length ns) (whole 4 ns) ≡ ns
sound-parts ns h = parts_whole 4 ns ∙ lowered ns h

-- parts of four bits all decode
pub parts-sound : (k n : ℕ) → sound (parts 4 k n) ≡ k
unfolding sound parts
parts-sound zero n = refl
parts-sound (suc k) n = rw (lt-ltb (n % 16) 16 (omega arith)) (ap suc (parts-sound k (n / 16)))

-- where all decode, so do the first
pub sound-take : (k : ℕ) (ns : List ℕ) → sound ns ≡ length ns → k ≤ length ns → sound (take k ns) ≡ k
unfolding sound
sound-take zero ns h l = refl
sound-take (suc k) [] h l = absurd (not-suc-le-zero l)
sound-take (suc k) (n ∷ ns) h l = go (ltb n 16) refl h (sound-take k ns)
  where
    go :
        (b : Bool) → ltb n 16 ≡ b → pick b (suc (sound ns)) 0 ≡ suc (length ns)
        → (sound ns ≡ length ns → k ≤ length ns → sound (take k ns) ≡ k)
        → pick (ltb n 16) (suc (sound (take k ns))) 0 ≡ suc k
    go true e h' ih = rw e (ap suc (ih (omega arith) (le_of_suc-le-suc l)))
    go false e h' ih = absurd (omega arith)

-- and each by itself
pub sound-at : (ns : List ℕ) (k : ℕ) → sound ns ≡ length ns → k < length ns → get_or ns k 0 < 16
unfolding sound
sound-at [] k h l = absurd (not-suc-le-zero l)
sound-at (n ∷ ns) k h l = go k (ltb n 16) refl h l (λ (j : ℕ). sound-at ns j)
  where
    go :
        (k : ℕ) (b : Bool) → ltb n 16 ≡ b → pick b (suc (sound ns)) 0 ≡ suc (length ns) → k < suc (length ns)
        → ((j : ℕ) → sound ns ≡ length ns → j < length ns → get_or ns j 0 < 16)
        → get_or (n ∷ ns) k 0 < 16
    go zero true e h' l' ih = ltb-true n 16 e
    go (suc j) true e h' l' ih = ih j (omega arith) (le_of_suc-le-suc l')
    go zero false e h' l' ih = absurd (omega arith)
    go (suc j) false e h' l' ih = absurd (omega arith)

-- ---- behind the checksum, which is a block's first two

pub drop-parts : (k n : ℕ) → drop 2 (parts 4 (suc (suc k)) n) ≡ parts 4 k (n / 2 ^ 8)
unfolding parts
drop-parts k n = ap (parts 4 k) (shr-shr n 4 4)

-- ---- images

-- images of nibbles decode to them
pub nibbles-back : (k n : ℕ) → map nib (map image (parts 4 k n)) ≡ parts 4 k n
unfolding parts
nibbles-back zero n = refl
nibbles-back (suc k) n = ap₂ (λ (x : ℕ) (xs : List ℕ). x ∷ xs) (nib-image (n % 16) ∙ mod-mod n 16) (nibbles-back k (n / 16))
