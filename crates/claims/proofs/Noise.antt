-- Laws of flipped bits: what a byte some bits away from an image decodes to, how far the images are apart, and that the fault
-- place agrees with the decoding. Each is one test that antt computes at every byte, or at every byte and nibble, and hands out
-- at each. Assumes nothing.
use mathlib.Core.Path.{◌≡◌, ◌∙◌, refl, sym}
use mathlib.Core.Bool.{Bool, true, false, beq}
use mathlib.Core.Logic.{◌⊎◌, inl, inr, ◌↔◌}
use Prim.Native.Nat.{ℕ, zero, suc, ◌/◌, ◌%◌, ◌<◌, ◌≤◌}
use native.Mathlib.Decide.{dec_le, dec_lt}
use native.Mathlib.Omega.{arith}
use lib.Dec.{T, eqb, ltb, leb, eqb→eq, leb→le}
use borrow.Author.Tests.{ltb-true, leb-true, eqb-true, eq-eqb, ne_eqb, le-leb}
use Rattle.laws.specs.Pick.{both, either}
use Rattle.laws.specs.Range.{all, count}
use Rattle.laws.proofs.Whole.{all-at, all2_at, both_left, both_right}
use Rattle.octet.specs.Bits.{number, differing, flips}
use Rattle.octet.specs.Image.{image, with_parity}
use Rattle.octet.specs.Decoding.{nib, nibble_from, undecodable}
use Rattle.octet.specs.Parity.{checks, product, fails, failing, column, place_from, fault_place, turned_over, mended}
use Rattle.octet.proofs.Lowest.{nib_mod, differing_mod}
use Rattle.octet.proofs.Laws.{nib_le}

-- ---- the decoding

-- a test handed out at every nibble and byte
within : (f : ℕ → ℕ → Bool) → T (all (λ n. all (f n) 0 256) 0 16) → (n b : ℕ) → n < 16 → T (f n (b % 256))
within f t n b h = all2_at f 16 256 t n (b % 256) h (omega arith)

-- exactly 144 bytes decode, so 112 do not
pub decodable : count (λ b. ltb (nib b) 16) 0 256 ≡ 144
unfolding nib nibble_from image with_parity differing number
decodable = refl

-- a byte at most two bits away from a nibble's image decodes to that nibble, or it can't be decoded and is two bits away
near_test : ℕ → ℕ → Bool
near_test n b =
    either (ltb 2 (flips (image n) b)) (either (eqb (nib b) n) (both (eqb (nib b) undecodable) (leb 2 (flips (image n) b))))

near-holds : T (all (λ n. all (near_test n) 0 256) 0 16)
unfolding near_test nib nibble_from image with_parity differing number
near-holds = tt

near-reads :
    (x f m n d : ℕ) → f ≤ d → d ≤ 2 → T (either (ltb 2 f) (either (eqb m n) (both (eqb m x) (leb 2 f))))
    → (m ≡ n) ⊎ ((m ≡ x) × (2 ≤ d))
near-reads x f m n d hf hd t = go (ltb 2 f) refl (eqb m n) refl t
  where
    go :
        (a : Bool) → ltb 2 f ≡ a → (e : Bool) → eqb m n ≡ e → T (either a (either e (both (eqb m x) (leb 2 f))))
        → (m ≡ n) ⊎ ((m ≡ x) × (2 ≤ d))
    go true p e q s = let h : 2 < f = ltb-true 2 f p in absurd (omega arith)
    go false p true q s = inl (eqb-true m n q)
    go false p false q s =
        let h : 2 ≤ f = leb→le 2 f (both_right (eqb m x) (leb 2 f) s) in
        inr (eqb→eq m x (both_left (eqb m x) (leb 2 f) s), omega arith)

pub near :
    (d n b : ℕ) → d ≤ 2 → n < 16 → flips (image n) b ≤ d → (nib b ≡ n) ⊎ ((nib b ≡ undecodable) × (2 ≤ d))
unfolding near_test
near d n b hd hn h =
    rw nib_mod
    (near-reads 16 (flips (image n) (b % 256)) (nib (b % 256)) n d (rw (differing_mod 8 (image n) b) at h) hd
    (within near_test near-holds n b hn))

-- a number differs from itself in no bit
pub flips_self : (k a : ℕ) → differing k a a ≡ 0
unfolding differing
flips_self zero a = refl
flips_self (suc k) a = rw (eq-eqb (a % 2) (a % 2) refl, flips_self k (a / 2))

-- decoded to a nibble exactly where the byte is at most one bit from its image (SCOPE 5.3)
exact_test : ℕ → ℕ → Bool
exact_test n b = beq (eqb (nib b) n) (leb (flips (image n) b) 1)

exact-holds : T (all (λ n. all (exact_test n) 0 256) 0 16)
unfolding exact_test nib nibble_from image with_parity differing number
exact-holds = tt

same_test : (a b : Bool) → T (beq a b) → a ≡ b
same_test true true t = refl
same_test true false t = absurd t
same_test false true t = absurd t
same_test false false t = refl

exact_tests : (n b : ℕ) → n < 16 → eqb (nib b) n ≡ leb (flips (image n) b) 1
unfolding exact_test
exact_tests n b h =
    rw (nib_mod b, differing_mod 8 (image n) b) (same_test _ _ (within exact_test exact-holds n b h))

pub exact : (n b : ℕ) → n < 16 → (nib b ≡ n) ↔ (flips (image n) b ≤ 1)
exact n b h = (
  λ e. leb-true _ 1 (sym (exact_tests n b h) ∙ eq-eqb (nib b) n e),
  λ f. eqb-true (nib b) n (exact_tests n b h ∙ le-leb _ 1 f),
)

pub refused_exactly : (b : ℕ) → (nib b ≡ undecodable) ↔ ((n : ℕ) → n < 16 → 2 ≤ flips (image n) b)
refused_exactly b = (away, none)
  where
    away : nib b ≡ undecodable → (n : ℕ) → n < 16 → 2 ≤ flips (image n) b
    away e n h =
        elim (dec_le 2 (flips (image n) b))
        [ yes p ↦ p | no q ↦ let f : nib b ≡ n = (exact n b h).1 (omega arith) in absurd (omega arith) ]

    none : ((n : ℕ) → n < 16 → 2 ≤ flips (image n) b) → nib b ≡ undecodable
    none f =
        elim (dec_lt (nib b) 16)
        [ yes h ↦ absurd (omega (arith, f (nib b) h, (exact (nib b) b h).0 refl)) | no q ↦ omega (arith, nib_le b) ]

-- distinct images differ in at least four bits
apart_test : ℕ → ℕ → Bool
apart_test m n = either (eqb m n) (leb 4 (flips (image m) (image n)))

apart-holds : T (all (λ m. all (apart_test m) 0 16) 0 16)
unfolding apart_test image with_parity differing number
apart-holds = tt

pub apart : (m n : ℕ) → m < 16 → n < 16 → (m ≡ n → ⊥) → 4 ≤ flips (image m) (image n)
unfolding apart_test
apart m n hm hn d =
    leb→le 4 _
    (rw (ne_eqb m n d) at (all2_at apart_test 16 16 apart-holds m n hm hn))

-- ---- the fault place agrees with the decoding

-- 16 exactly where the byte can't be decoded
refused_test : ℕ → Bool
refused_test b = beq (eqb (fault_place b) 16) (eqb (nib b) undecodable)

-- 8 exactly where the byte is the image of its nibble
clean_test : ℕ → Bool
clean_test b = beq (eqb (fault_place b) 8) (eqb b (image (nib b)))

-- mended at that place the byte is the image of its nibble
mends_test : ℕ → Bool
mends_test b = either (eqb (nib b) undecodable) (eqb (mended (fault_place b) b) (image (nib b)))

agrees-holds : T (all refused_test 0 256) × T (all clean_test 0 256) × T (all mends_test 0 256)
unfolding
    refused_test
    clean_test
    mends_test
    nib
    nibble_from
    image
    with_parity
    differing
    number
    fault_place
    place_from
    failing
    column
    fails
    product
    checks
    mended
    turned_over
agrees-holds = (tt, tt, tt)

-- what the fault place of a byte says
pub record Agrees (b : ℕ) : Type 0 where
  pub refused : eqb (fault_place b) 16 ≡ eqb (nib b) undecodable
  pub clean : eqb (fault_place b) 8 ≡ eqb b (image (nib b))
  pub mends : (nib b ≡ undecodable → ⊥) → mended (fault_place b) b ≡ image (nib b)

pub agrees : (b : ℕ) → b < 256 → Agrees b
unfolding refused_test clean_test mends_test
agrees b h =
    record {
      refused = same_test _ _ (all-at refused_test 256 agrees-holds.0 b h);
      clean = same_test _ _ (all-at clean_test 256 agrees-holds.1 b h);
      mends = λ d. eqb→eq _ _ (rw (ne_eqb (nib b) undecodable d) at (all-at mends_test 256 agrees-holds.2 b h));
    }
