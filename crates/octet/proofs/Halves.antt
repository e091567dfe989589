-- Bits in the other order, in steps: of twice k bits the lower k, turned, go above the upper k, turned. Once over the width.
-- Assumes nothing.
use mathlib.Core.Path.{◌≡◌, refl, ap}
use mathlib.Core.List.{List, [], ◌∷◌, ◌++◌, reverse, reverse-append}
use Prim.Native.Nat.{ℕ, zero, suc, ◌+◌, ◌*◌, ◌/◌, ◌^◌}
use native.Mathlib.Nat.{zero-add, suc-add, div-one, mul_assoc, pow-succ'}
use native.Mathlib.Omega.{arith}
use lib.ListN.{length, length-reverse}
use lib.Pow.{shr-shr}
use Rattle.octet.specs.Bits.{bits, number}

bits-length : (k b : ℕ) → length (bits k b) ≡ k
unfolding bits
bits-length zero b = refl
bits-length (suc k) b = ap suc (bits-length k (b / 2))

bits_above : (k j b : ℕ) → bits (k + j) b ≡ bits k b ++ bits j (b / 2 ^ k)
unfolding bits
bits_above zero j b = rw (zero-add, div-one)
bits_above (suc k) j b =
    let e : 1 + k ≡ suc k = omega arith in
    rw (suc-add, bits_above k j (b / 2), shr-shr b 1 k, e)

number-above : (low high : List ℕ) → number (low ++ high) ≡ number low + 2 ^ length low * number high
unfolding number
number-above [] high = omega arith
number-above (d ∷ ds) high = rw (number-above ds high, pow-succ', mul_assoc) (omega arith)

-- the k lowest bits in the other order
abbrev pub backwards : ℕ → ℕ → ℕ
backwards k b = number (reverse (bits k b))

pub halves : (k b : ℕ) → backwards (k + k) b ≡ backwards k b * 2 ^ k + backwards k (b / 2 ^ k)
halves k b =
    rw (bits_above k k b, reverse-append, number-above, length-reverse, bits-length) (omega arith)
