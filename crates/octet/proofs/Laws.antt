-- Laws of the image, the decoding and the turning that many crates cite; most are one test that antt computes at every byte and
-- hands out at each. The laws of flipped bits and of the fault place stand in claims/proofs/Noise. Assumes nothing.
use mathlib.Core.Path.{◌≡◌}
use mathlib.Core.Bool.{Bool, true, false}
use mathlib.Core.List.{List}
use Prim.Native.Nat.{ℕ, zero, suc, ◌+◌, ◌%◌, ◌<◌, ◌≤◌}
use native.Mathlib.Omega.{arith}
use lib.Dec.{eqb, leb, eqb→eq}
use lib.ListN.{get_or}
use Rattle.laws.specs.Range.{tabulate}
use Rattle.laws.proofs.Whole.{all-at, tabulate-at}
use Rattle.octet.specs.Bits.{bits, number, differing, flips}
use Rattle.octet.specs.Image.{image, with_parity}
use Rattle.octet.specs.Decoding.{nib, nibble_from}
use Rattle.octet.specs.Turning.{turned}
use Rattle.octet.proofs.Lowest.{image_mod}

nibble_from_le : (k n b : ℕ) → n + k ≤ 16 → nibble_from k n b ≤ 16
unfolding nibble_from
nibble_from_le zero n b h = omega arith
nibble_from_le (suc k) n b h = go (leb (flips (image n) b) 1) (nibble_from_le k (suc n) b (omega arith))
  where
    go : (t : Bool) → nibble_from k (suc n) b ≤ 16 → elim t [ true ↦ n | false ↦ nibble_from k (suc n) b ] ≤ 16
    go true g = omega arith
    go false g = g

-- what decodes is a nibble, and what doesn't is 16
pub nib_le : (b : ℕ) → nib b ≤ 16
unfolding nib
nib_le b = nibble_from_le 16 0 b (omega arith)

-- an image decodes to its nibble
pub nib-image : (n : ℕ) → nib (image n) ≡ n % 16
unfolding nib nibble_from image with_parity differing number
nib-image n = rw image_mod (eqb→eq _ _ (all-at (λ (x : ℕ). eqb (nib (image x)) x) 16 tt (n % 16) (omega arith)))

byte : (b : ℕ) → b % 256 < 256
byte b = omega arith

-- turning twice gives the byte
pub turned-turned : (b : ℕ) → b < 256 → turned (turned b) ≡ b
unfolding turned bits number
turned-turned b h = eqb→eq _ b (all-at (λ (x : ℕ). eqb (turned (turned x)) x) 256 tt b h)

-- an entry of the table is what its byte decodes to
pub entry_at : (table : List ℕ) → table ≡ tabulate nib 0 256 → (b : ℕ) → b < 256 → get_or table b 0 ≡ nib b
entry_at table e b h = rw e (tabulate-at nib 256 b h)
