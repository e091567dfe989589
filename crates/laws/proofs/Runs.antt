-- Stores in a row: one store before them may be done after them, and one value stored n times goes on one place a step.
-- Assumes nothing.
use mathlib.Core.Path.{◌≡◌, ◌∙◌, refl, ap}
use mathlib.Core.List.{List, [], ◌∷◌}
use Prim.Native.Nat.{ℕ, suc, ◌+◌, ◌-◌, ◌<◌}
use native.Mathlib.Omega.{arith}
use lib.ListN.{set, replicate}
use lib.Seq.{sets, set_comm}

module _ {ℓ} {A : Type ℓ} where
  pub set-sets : (l : List A) (i j : ℕ) (a : A) (xs : List A) → i < j → set (sets l j xs) i a ≡ sets (set l i a) j xs
  set-sets l i j a [] h = refl
  set-sets l i j a (x ∷ xs) h =
      set-sets (set l j x) i (suc j) a xs (omega arith)
      ∙ ap (λ (m : List A). sets m (suc j) xs) (set_comm l j i x a (λ e. omega arith))

  pub sets-run :
      (l : List A) (q i n : ℕ) (a : A) → i < n
      → sets (set l (q + i) a) (q + (i + 1)) (replicate (n - (i + 1)) a) ≡ sets l (q + i) (replicate (n - i) a)
  sets-run l q i n a h =
      let e : n - i ≡ suc (n - (i + 1)) = omega arith in
      let f : q + (i + 1) ≡ suc (q + i) = omega arith in
      rw (e, f)
