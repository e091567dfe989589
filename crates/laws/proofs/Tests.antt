-- What tests made of tests tell, as equations. Assumes nothing.
use mathlib.Core.Path.{◌≡◌, ◌∙◌, refl, sym}
use mathlib.Core.Bool.{Bool, true, false}
use Prim.Native.Nat.{ℕ, zero, suc}
use native.Mathlib.Omega.{arith}
use lib.Bits.{bit_or, or_zero_l, or_add_and, and_le_r}
use lib.Dec.{eqb}
use borrow.Author.Tests.{ne_eqb}
use Rattle.laws.specs.Pick.{both, either}

pub both_first : (a b : Bool) → both a b ≡ true → a ≡ true
both_first true b h = refl
both_first false b h = h

pub both-second : (a b : Bool) → both a b ≡ true → b ≡ true
both-second true b h = h
both-second false true h = refl
both-second false false h = h

pub both_true : (a b : Bool) → both a b ≡ true → (a ≡ true) × (b ≡ true)
both_true a b h = (both_first a b h, both-second a b h)

pub both-holds : (a b : Bool) → a ≡ true → b ≡ true → both a b ≡ true
both-holds true b g h = h
both-holds false b g h = g

pub both_assoc : (a b c : Bool) → both a (both b c) ≡ both (both a b) c
both_assoc true b c = refl
both_assoc false b c = refl

pub either_first : (a b : Bool) → either a b ≡ true → b ≡ false → a ≡ true
either_first true b h e = refl
either_first false b h e = sym e ∙ h

pub both_right : (a : Bool) → both a true ≡ a
both_right true = refl
both_right false = refl

pub both_false : (a : Bool) → both a false ≡ false
both_false true = refl
both_false false = refl

pub either_false : (a : Bool) → either a false ≡ a
either_false true = refl
either_false false = refl

pub either_true : (a : Bool) → either a true ≡ true
either_true true = refl
either_true false = refl

pub either_assoc : (a b c : Bool) → either (either a b) c ≡ either a (either b c)
either_assoc true b c = refl
either_assoc false b c = refl

-- numbers or-ed are 0 where each is
pub mixed_zero : (s b : ℕ) (z : Bool) → both (eqb (bit_or s b) 0) z ≡ both (eqb s 0) (both (eqb b 0) z)
mixed_zero zero b z = rw (or_zero_l b)
mixed_zero (suc s) b z =
    let n : bit_or (suc s) b ≡ 0 → ⊥ = λ e. omega (arith, or_add_and (suc s) b, and_le_r (suc s) b, e) in
    let m : suc s ≡ 0 → ⊥ = λ e. omega arith in
    rw (ne_eqb _ _ n, ne_eqb _ _ m)
