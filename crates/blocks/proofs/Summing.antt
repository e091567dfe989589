-- How a pass along a block finds the bytes that decode, and their sum: one byte on, a byte that can't be decoded, the end. Assumes
-- nothing.
use mathlib.Core.Path.{◌≡◌, ◌∙◌, refl, sym, ap}
use mathlib.Core.Bool.{Bool, true, false}
use mathlib.Core.List.{List, [], ◌∷◌, map}
use Prim.Native.Nat.{ℕ, suc, ◌+◌, ◌-◌, ◌/◌, ◌%◌, ◌≤◌, ◌<◌, zero-le, suc-le-suc}
use native.Mathlib.Numerals.{add-one}
use native.Mathlib.Nat.{le_refl, add-zero, zero-add, add_assoc, mod-add-mod, mod-eq_of_lt}
use native.Mathlib.Omega.{arith}
use borrow.Author.Tests.{lt-ltb, le-ltb, leb-true, leb-false}
use lib.Dec.{ltb, leb}
use lib.ListN.{length, get_or, drop, drop_of_length-le}
use lib.Seq.{drop-cons}
use Rattle.laws.specs.Pick.{pick}
use Rattle.octet.specs.Decoding.{nib}
use Rattle.fields.specs.Fields.{parts}
use Rattle.blocks.specs.Sums.{total, checksum, sound}

-- ---- the bytes that decode

pub sound_le : (ns : List ℕ) → sound ns ≤ length ns
unfolding sound
sound_le [] = le_refl 0
sound_le (n ∷ ns) = go (ltb n 16) (sound_le ns)
  where
    go : (b : Bool) → sound ns ≤ length ns → pick b (suc (sound ns)) 0 ≤ suc (length ns)
    go true h = suc-le-suc h
    go false h = zero-le

pub sound-step : (s : List ℕ) (i : ℕ) → i < length s → nib (get_or s i 0) < 16 → i + 1 + sound (map nib (drop (i + 1) s)) ≡ i + sound (map nib (drop i s))
unfolding sound
sound-step s i h k = rw (add-one i, drop-cons s i 0 h, lt-ltb _ 16 k) (omega arith)

pub sound-stop : (s : List ℕ) (i : ℕ) → i < length s → 16 ≤ nib (get_or s i 0) → i ≡ i + sound (map nib (drop i s))
unfolding sound
sound-stop s i h k = rw (drop-cons s i 0 h, le-ltb _ 16 k) (sym (add-zero i))

pub sound-end : (s : List ℕ) (i : ℕ) → length s ≤ i → i ≡ i + sound (map nib (drop i s))
unfolding sound
sound-end s i h = rw (drop_of_length-le s h) (sym (add-zero i))

-- the first two bytes passed; a byte that can't be decoded, and none: where a pass that has found i bytes sound ends
pub sound_two :
    (s : List ℕ) → 2 ≤ length s → nib (get_or s 0 0) < 16 → nib (get_or s 1 0) < 16 → 2 + sound (map nib (drop 2 s)) ≡ sound (map nib s)
sound_two s h k l = sound-step s 1 (omega arith) l ∙ sound-step s 0 (omega arith) k ∙ zero-add _

module _ (s : List ℕ) (i : ℕ) (e : i + sound (map nib (drop i s)) ≡ sound (map nib s)) where
  pub sound-short : i < length s → 16 ≤ nib (get_or s i 0) → sound (map nib s) < length s
  sound-short h k = omega (arith, sound-stop s i h k)

  pub sound-all : i ≤ length s → length s ≤ i → sound (map nib s) ≡ length s
  sound-all h k = omega (arith, sound-end s i k)

-- ---- the checksum

pub sum_head : (head : ℕ) → head % 16 + head / 16 % 16 + head / 16 / 16 % 16 + head / 16 / 16 / 16 % 16 ≡ total (parts 4 4 head)
unfolding total parts
sum_head head = omega arith

pub sum_step :
    (s : List ℕ) (i sum : ℕ) → i < length s
    → ((sum + nib (get_or s i 0)) % 256 + total (map nib (drop (i + 1) s))) % 256 ≡ (sum + total (map nib (drop i s))) % 256
unfolding total
sum_step s i sum h = rw (add-one i, drop-cons s i 0 h) (mod-add-mod _ 256 _ ∙ ap (λ (x : ℕ). x % 256) (add_assoc _ _ _))

pub sum-end :
    (head : ℕ) (s : List ℕ) (i sum : ℕ) → length s ≤ i → sum < 256
    → (sum + total (map nib (drop i s))) % 256 ≡ (total (parts 4 4 head) + total (drop 2 (map nib s))) % 256
    → (256 - sum) % 256 ≡ checksum head (map nib s)
unfolding checksum
sum-end head s i sum h l e =
    ap (λ (x : ℕ). (256 - x) % 256)
    (sym (mod-eq_of_lt l) ∙ ap (λ (x : ℕ). x % 256) (sym (add-zero sum)) ∙ (unfold total in (rw (drop_of_length-le s h) at e)))

pub checksum_lt : (head : ℕ) (ns : List ℕ) → checksum head ns < 256
unfolding checksum
checksum_lt head ns = omega arith

-- what the contract of `sum_of` says of a body's sum c, of its n bytes and of how many come before one that can't be decoded, is
-- one number
pub one-sum :
    (c s n x y : ℕ) → (255 < x → s < n) → (x ≤ 255 → (s ≡ n) × (x ≡ c)) → x ≤ 256 → (255 < y → s < n)
    → (y ≤ 255 → (s ≡ n) × (y ≡ c))
    → y ≤ 256
    → x ≡ y
one-sum c s n x y broken whole most broken' whole' most' = go (leb x 255) refl (leb y 255) refl
  where
    go : (a : Bool) → leb x 255 ≡ a → (b : Bool) → leb y 255 ≡ b → x ≡ y
    go true e true f = (whole (leb-true x 255 e)).1 ∙ sym (whole' (leb-true y 255 f)).1
    go true e false f = absurd (omega (arith, (whole (leb-true x 255 e)).0, broken' (leb-false y 255 f)))
    go false e true f = absurd (omega (arith, (whole' (leb-true y 255 f)).0, broken (leb-false x 255 e)))
    go false e false f = omega (arith, leb-false x 255 e, leb-false y 255 f)
