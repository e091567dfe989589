-- Only the lowest bits of a number count, so no law of a byte asks that it is one. Assumes nothing.
use mathlib.Core.Path.{◌≡◌, refl, ap, ap₂}
use mathlib.Core.Bool.{true, false}
use mathlib.Core.List.{List}
use Prim.Native.Nat.{ℕ, zero, suc, ◌/◌, ◌%◌, ◌^◌}
use native.Mathlib.Numerals.{add-one}
use lib.Dec.{leb}
use lib.ListN.{get_or}
use lib.Pow.{field, mod-mod-pow}
use Rattle.octet.specs.Bits.{bits, differing}
use Rattle.octet.specs.Image.{image, with_parity}
use Rattle.octet.specs.Decoding.{nib, nibble_from}

mod_low : (b k : ℕ) → b % 2 ^ suc k % 2 ≡ b % 2
mod_low b k = rw (← add-one k) (mod-mod-pow b k 1)

mod_rest : (b k : ℕ) → b % 2 ^ suc k / 2 ≡ b / 2 % 2 ^ k
mod_rest b k = rw (← add-one k) (field b k 1)

pub bits_mod : (k b : ℕ) → bits k b ≡ bits k (b % 2 ^ k)
unfolding bits
bits_mod zero b = refl
bits_mod (suc k) b = rw (mod_low, mod_rest, bits_mod k (b / 2))

pub differing_mod : (k a b : ℕ) → differing k a b ≡ differing k a (b % 2 ^ k)
unfolding differing
differing_mod zero a b = refl
differing_mod (suc k) a b = rw (mod_low, mod_rest, differing_mod k (a / 2) (b / 2))

pub image_mod : (n : ℕ) → image n ≡ image (n % 16)
unfolding image bits
image_mod n = ap (λ (l : List ℕ). with_parity (get_or l 0 0) (get_or l 1 0) (get_or l 2 0) (get_or l 3 0)) (bits_mod 4 n)

nibble_from_mod : (k n b : ℕ) → nibble_from k n b ≡ nibble_from k n (b % 256)
unfolding nibble_from
nibble_from_mod zero n b = refl
nibble_from_mod (suc k) n b =
    ap₂ (λ (x y : ℕ). elim (leb x 1) [ true ↦ n | false ↦ y ]) (differing_mod 8 (image n) b) (nibble_from_mod k (suc n) b)

pub nib_mod : (b : ℕ) → nib b ≡ nib (b % 256)
unfolding nib
nib_mod b = nibble_from_mod 16 0 b
