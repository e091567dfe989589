-- Orders as tests: whether the first of two stands at or below the second. Over any type.
use Rattle.std.specs.Prelude.{◌≡◌, Bool, true, false, List, [], ◌∷◌, ℕ, ltb, eqb}
use Rattle.laws.specs.Pick.{pick}

-- byte by byte, a prefix first
unfoldable pub before : List ℕ → List ℕ → Bool
before [] ys = true
before (x ∷ xs) [] = false
before (x ∷ xs) (y ∷ ys) = pick (ltb x y) true (pick (eqb x y) (before xs ys) false)

module _ {A : Type 0} where
  -- by the first order; where that holds both ways, by the second
  abbrev pub in_turn : (A → A → Bool) → (A → A → Bool) → A → A → Bool
  in_turn first second x y = pick (first x y) (pick (first y x) (second x y) true) false

  -- the greater of two; the second, where neither is greater
  abbrev pub greater : (A → A → Bool) → A → A → A
  greater leq x y = pick (leq x y) y x

  -- any two can be compared, and the order carries on
  pub record Ordered (leq : A → A → Bool) : Type 0 where
    pub total : (x y : A) → leq x y ≡ false → leq y x ≡ true
    pub carries : (x y z : A) → leq x y ≡ true → leq y z ≡ true → leq x z ≡ true

-- an order that tells apart any two that may stand at one key
pub record Decides {A : Type 0} (key : A → ℕ) (Fit : A → Type 0) (leq : A → A → Bool) : Type 0 where
  pub ordered : Ordered leq
  pub only : (x y : A) → Fit x → Fit y → key x ≡ key y → leq x y ≡ true → leq y x ≡ true → x ≡ y
