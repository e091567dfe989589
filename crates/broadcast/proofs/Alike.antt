-- Bytes that are alike: byte by byte; and of two bytes of right parity it is equality, since such a byte that decodes is an image. Assumes nothing.
use mathlib.Core.Path.{◌≡◌, ◌∙◌, refl, sym, ap}
use mathlib.Core.Bool.{Bool, true, false}
use mathlib.Core.Logic.{◌↔◌}
use mathlib.Core.List.{List}
use Prim.Native.Nat.{ℕ, ◌+◌, ◌≤◌, ◌<◌}
use native.Mathlib.Numerals.{add-one}
use native.Mathlib.Omega.{arith}
use borrow.Author.Tests.{eqb-true, ltb-true, lt-ltb, eq-eqb}
use lib.Dec.{T, eqb, ltb, eqb→eq}
use lib.ListN.{length, get_or, drop, drop_of_length-le}
use lib.Seq.{drop-cons}
use Rattle.laws.specs.Pick.{pick, both, either}
use Rattle.laws.proofs.Tests.{both_first, both-second}
use Rattle.laws.proofs.Whole.{all-at}
use Rattle.laws.specs.Range.{all}
use Rattle.octet.specs.Bits.{differing, number}
use Rattle.octet.specs.Decoding.{nib, nibble_from}
use Rattle.octet.specs.Image.{image, with_parity}
use Rattle.parity.specs.Parity.{ones, is_odd}
use Rattle.broadcast.specs.Same.{alike, alikes}

-- ---- one byte

alike-equal : (a b : ℕ) → a ≡ b → true ≡ alike a b
unfolding alike
alike-equal a b e = rw (eq-eqb a b e)

-- a byte of right parity that decodes is the image of its nibble
image_test : ℕ → Bool
image_test b = either (pick (is_odd b) false true) (either (pick (ltb (nib b) 16) false true) (eqb b (image (nib b))))

image_tested : T (all image_test 0 256)
unfolding image_test is_odd ones nib nibble_from differing image with_parity number
image_tested = tt

odd-image : (b : ℕ) → b < 256 → is_odd b ≡ true → nib b < 16 → b ≡ image (nib b)
unfolding image_test
odd-image b h o d = go (all-at image_test 256 image_tested b h)
  where
    go : T (image_test b) → b ≡ image (nib b)
    go t = eqb→eq b (image (nib b)) (rw (o, lt-ltb (nib b) 16 d) at t)

-- so two such bytes are alike exactly when they are equal
pub odd-alike : (a b : ℕ) → a < 256 → b < 256 → is_odd a ≡ true → is_odd b ≡ true → (alike a b ≡ true) ↔ (a ≡ b)
unfolding alike
odd-alike a b ha hb oa ob = (to, λ e. sym (alike-equal a b e))
  where
    to : alike a b ≡ true → a ≡ b
    to t = go (eqb a b) refl
      where
        go : (s : Bool) → eqb a b ≡ s → a ≡ b
        go true e = eqb-true a b e
        go false e =
            let rest : both (ltb (nib a) 16) (eqb (nib a) (nib b)) ≡ true = rw e at t in
            let decodes = ltb-true (nib a) 16 (both_first _ _ rest) in
            let one = eqb-true (nib a) (nib b) (both-second (ltb (nib a) 16) _ rest) in
            let there : nib b < 16 = omega (arith, one, decodes) in
            odd-image a ha oa decodes ∙ ap image one ∙ sym (odd-image b hb ob there)

-- ---- byte by byte

module _ (r q : List ℕ) (i : ℕ) where
  pub alikes-step :
      i < length r → length r ≡ length q → alike (get_or r i 0) (get_or q i 0) ≡ true → alikes (drop (i + 1) r) (drop (i + 1) q) ≡ alikes (drop i r) (drop i q)
  unfolding alikes
  alikes-step h e a = let h' : i < length q = omega arith in rw (add-one, drop-cons r i 0 h, drop-cons q i 0 h', a)

  pub alikes-stop : i < length r → length r ≡ length q → alike (get_or r i 0) (get_or q i 0) ≡ false → false ≡ alikes (drop i r) (drop i q)
  unfolding alikes
  alikes-stop h e a = let h' : i < length q = omega arith in rw (drop-cons r i 0 h, drop-cons q i 0 h', a)

  pub alikes-end : length r ≤ i → length r ≡ length q → true ≡ alikes (drop i r) (drop i q)
  unfolding alikes
  alikes-end h e = let h' : length q ≤ i = omega arith in rw (drop_of_length-le r h, drop_of_length-le q h')
