-- Laws of how a byte was heard: its number is what it decodes to, and what its harm, and that of a list, is. Assumes nothing.
use mathlib.Core.Path.{◌≡◌, ◌∙◌, refl, sym, ap, ap₂}
use mathlib.Core.Bool.{Bool, true, false}
use mathlib.Core.Logic.{◌↔◌}
use mathlib.Core.List.{List, [], ◌∷◌, ◌++◌, map}
use Prim.Native.Nat.{ℕ, ◌+◌, ◌/◌, ◌%◌, ◌≤◌}
use native.Mathlib.Nat.{le_refl, add_assoc}
use native.Mathlib.Omega.{arith}
use lib.Dec.{eqb}
use lib.ListN.{length}
use borrow.Author.Tests.{eqb-true, eq-eqb, ne_eqb}
use Rattle.laws.specs.Pick.{pick}
use Rattle.octet.specs.declared.Heard.TheVariants.{Image, Mended, Neither}
use Rattle.octet.specs.Image.{image}
use Rattle.octet.specs.Decoding.{nib, undecodable}
use Rattle.octet.specs.Hearing.{harm, harms, mark, hearing, number_of, mended_of}
use Rattle.octet.proofs.Lowest.{image_mod}
use Rattle.octet.proofs.Laws.{nib_le, nib-image}

-- ---- a byte

pub harm_le : (b : ℕ) → harm b ≤ 1
unfolding harm
harm_le b = go (eqb b (image (nib b)))
  where
    go : (t : Bool) → pick t 0 1 ≤ 1
    go true = omega arith
    go false = le_refl 1

-- where a byte decodes to the nibble n that was sent, its harm is whether it differs from that nibble's image
pub harm-sent : (n b : ℕ) → nib b ≡ n → harm b ≡ pick (eqb b (image n)) 0 1
unfolding harm
harm-sent n b e = rw e

-- so it is 0 exactly where the byte is that image
pub harm-exact : (n b : ℕ) → nib b ≡ n → (harm b ≡ 0) ↔ (b ≡ image n)
harm-exact n b e = (λ h. clean (eqb b (image n)) refl (sym (harm-sent n b e) ∙ h), kept)
  where
    kept : b ≡ image n → harm b ≡ 0
    kept h = rw (harm-sent n b e, eq-eqb b (image n) h)

    clean : (t : Bool) → eqb b (image n) ≡ t → ◌≡◌ {A = ℕ} (pick t 0 1) 0 → b ≡ image n
    clean true p h = eqb-true b (image n) p
    clean false p h = absurd (omega arith)

-- an image has none
pub harm-image : (n : ℕ) → harm (image n) ≡ 0
harm-image n = (harm-exact (n % 16) (image n) (nib-image n)).1 (image_mod n)

-- ---- a byte's mark

-- says what the byte decodes to
pub mark-nib : (r b : ℕ) → r ≡ mark b → r % 32 ≡ nib b
unfolding mark
mark-nib r b e = omega (arith, e, nib_le b)

-- and its harm
pub mark-harm : (r b : ℕ) → r ≡ mark b → r / 32 ≡ harm b
unfolding mark
mark-harm r b e = omega (arith, e, nib_le b)

-- ---- what is heard

pub heard_neither : (n b : ℕ) → n ≡ nib b → n ≡ undecodable → Neither ≡ hearing b
unfolding hearing
heard_neither n b e u = rw (eq-eqb (nib b) undecodable (sym e ∙ u))

module _ (n b : ℕ) (e : n ≡ nib b) (d : n ≡ undecodable → ⊥) where
  pub heard-image : b ≡ image n → Image n ≡ hearing b
  unfolding hearing harm
  heard-image h = rw (← e, ne_eqb n undecodable d, eq-eqb b (image n) h)

  pub heard-mended : (b ≡ image n → ⊥) → Mended n ≡ hearing b
  unfolding hearing harm
  heard-mended h = rw (← e, ne_eqb n undecodable d, ne_eqb b (image n) h)

-- its number is what the byte decodes to, at every byte
pub heard-number : (b : ℕ) → number_of (hearing b) ≡ nib b
unfolding hearing
heard-number b = go (eqb (nib b) undecodable) refl (eqb (harm b) 0)
  where
    go :
        (t : Bool) → eqb (nib b) undecodable ≡ t
        → (u : Bool) → number_of (pick t Neither (pick u (Image (nib b)) (Mended (nib b)))) ≡ nib b
    go true e u = sym (eqb-true (nib b) undecodable e)
    go false e true = refl
    go false e false = refl

-- and of a byte that decodes it says its harm
pub heard-harm : (b : ℕ) → (nib b ≡ undecodable → ⊥) → mended_of (hearing b) ≡ harm b
unfolding hearing harm
heard-harm b d = rw (ne_eqb (nib b) undecodable d) (go (eqb b (image (nib b))))
  where
    go : (t : Bool) → mended_of (pick (eqb (pick t 0 1) 0) (Image (nib b)) (Mended (nib b))) ≡ pick t 0 1
    go true = refl
    go false = refl

-- ---- a list

pub harms-append : (a b : List ℕ) → harms (a ++ b) ≡ harms a + harms b
unfolding harms
harms-append [] b = omega arith
harms-append (x ∷ a) b = ap (λ (n : ℕ). harm x + n) (harms-append a b) ∙ sym (add_assoc _ _ _)

pub harms_le : (l : List ℕ) → harms l ≤ length l
unfolding harms
harms_le [] = le_refl 0
harms_le (b ∷ l) = omega (arith, harm_le b, harms_le l)

pub harms_images : (ns : List ℕ) → harms (map image ns) ≡ 0
unfolding harms
harms_images [] = refl
harms_images (n ∷ ns) = ap₂ (λ (x y : ℕ). x + y) (harm-image n) (harms_images ns)
