-- A loop that counts down: what is made of the number left, once none is left, and where one more is. Assumes nothing.
use mathlib.Core.Path.{◌≡◌, ap}
use Prim.Native.Nat.{ℕ, suc, ◌-◌, ◌≤◌, ◌<◌}
use native.Mathlib.Omega.{arith}

module _ {ℓ} {A : Type ℓ} (f : ℕ → A) (left : ℕ) where
  pub at_none : left ≤ 0 → f left ≡ f 0
  at_none h = let e : left ≡ 0 = omega arith in ap f e

  pub at_more : 0 < left → f left ≡ f (suc (left - 1))
  at_more h = let e : left ≡ suc (left - 1) = omega arith in ap f e
