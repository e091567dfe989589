-- Bytes that are all images: each decodes, to every other bit of it. Assumes nothing.
use mathlib.Core.Path.{◌≡◌, ◌∙◌, refl, ap}
use mathlib.Core.Bool.{Bool, true}
use mathlib.Core.List.{List, [], ◌∷◌, map}
use Prim.Native.Nat.{ℕ, zero, suc, ◌+◌, ◌*◌, ◌/◌, ◌%◌, ◌<◌}
use native.Mathlib.Nat.{le_of_suc-le-suc, not-suc-le-zero}
use native.Mathlib.Omega.{arith}
use borrow.Author.Tests.{eq-eqb, lt-ltb}
use lib.Dec.{eqb, eqb→eq}
use lib.ListN.{length, get_or}
use Rattle.laws.specs.Pick.{pick}
use Rattle.laws.proofs.Whole.{all-at}
use Rattle.octet.specs.Bits.{number, differing}
use Rattle.octet.specs.Image.{image, with_parity}
use Rattle.octet.specs.Decoding.{nib, nibble_from}
use Rattle.octet.specs.Hearing.{harm, harms}
use Rattle.octet.proofs.Laws.{nib-image}
use Rattle.octet.proofs.Hearing.{harm-exact}
use Rattle.blocks.specs.Sums.{sound}

-- ---- a byte

-- every other bit of a byte
abbrev pub every_other : ℕ → ℕ
every_other b = b / 2 % 2 + b / 8 % 2 * 2 + b / 32 % 2 * 4 + b / 128 * 8

image_test : ℕ → Bool
image_test b = pick (eqb (harm b) 0) (eqb (every_other b) (nib b)) true

pub image-bits : (b : ℕ) → b < 256 → harm b ≡ 0 → every_other b ≡ nib b
unfolding image_test nib nibble_from image with_parity differing number harm
image-bits b h e = eqb→eq _ _ (rw (eq-eqb (harm b) 0 e) at (all-at image_test 256 tt b h))

image-nib : (b : ℕ) → harm b ≡ 0 → nib b < 16
image-nib b e =
    let d : nib b ≡ nib b % 16 = ap nib ((harm-exact (nib b) b refl).0 e) ∙ nib-image (nib b) in
    omega (arith, d)

-- ---- a list

pub clean_at : (s : List ℕ) (i : ℕ) → harms s ≡ 0 → i < length s → harm (get_or s i 0) ≡ 0
unfolding harms
clean_at [] i e h = absurd (not-suc-le-zero h)
clean_at (b ∷ s) zero e h = omega (arith, e)
clean_at (b ∷ s) (suc i) e h = clean_at s i (omega (arith, e)) (le_of_suc-le-suc h)

pub clean-sound : (s : List ℕ) → harms s ≡ 0 → sound (map nib s) ≡ length s
unfolding harms sound
clean-sound [] e = refl
clean-sound (b ∷ s) e =
    let h : harm b ≡ 0 = omega (arith, e) in
    let k : harms s ≡ 0 = omega (arith, e) in
    rw (lt-ltb (nib b) 16 (image-nib b h)) (ap suc (clean-sound s k))
