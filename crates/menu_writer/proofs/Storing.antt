-- Parts that are sent one after the other. Assumes nothing.
use mathlib.Core.Path.{◌≡◌, ◌∙◌, refl, sym}
use mathlib.Core.List.{List, ◌++◌}
use Prim.Native.Nat.{ℕ, ◌+◌}
use native.Mathlib.Nat.{add_assoc}
use lib.ListN.{length, length-append}
use lib.Seq.{sets}
use Rattle.laws.proofs.Lists.{sets-append}

module _ (xs ys : List ℕ) (to p : ℕ) (hp : p ≡ to + length xs) where
  pub two-stores : (out o1 o2 : List ℕ) → o1 ≡ sets out to xs → o2 ≡ sets o1 p ys → o2 ≡ sets out to (xs ++ ys)
  two-stores out o1 o2 e1 e2 = e2 ∙ (rw (e1, hp) (sym (sets-append out to xs ys)))

  pub two-places : p + length ys ≡ to + length (xs ++ ys)
  two-places = rw (hp, length-append xs ys) (add_assoc to (length xs) (length ys))

  pub store-on : (out o1 : List ℕ) → o1 ≡ sets out to xs → sets o1 p ys ≡ sets out to (xs ++ ys)
  store-on out o1 e = two-stores out o1 (sets o1 p ys) e refl
