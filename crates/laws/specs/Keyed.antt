-- Lists of entries that rise by a key, over any type of entry: what stands at a key, and two of them merged.
use Rattle.std.specs.Prelude.{Bool, true, false, List, [], ◌∷◌, ℕ, suc, ltb, leb, eqb}
use Rattle.std.proofs.Math.Option.{Option, none, some}
use Rattle.laws.specs.Pick.{pick, both}

module _ {A : Type 0} (key : A → ℕ) where
  -- each key is greater than the one before it, and the first is not below `least`
  unfoldable pub rising_from : ℕ → List A → Bool
  rising_from least [] = true
  rising_from least (x ∷ xs) = both (leb least (key x)) (rising_from (suc (key x)) xs)

  -- each key is greater than the one before it
  abbrev pub rising : List A → Bool
  rising xs = rising_from 0 xs

  -- the entry that stands at a key
  unfoldable pub lookup : ℕ → List A → Option A
  lookup k [] = none
  lookup k (x ∷ xs) = pick (eqb (key x) k) (some x) (lookup k xs)

  module _ (choose : A → A → A) where
    -- x put into ys, and what follows x by `rest`: x first where its key is smaller, the chosen of the two where the keys are equal
    unfoldable pub into : A → (List A → List A) → List A → List A
    into x rest [] = x ∷ rest []
    into x rest (y ∷ ys) =
        elim (ltb (key x) (key y)) [
          | true ↦ x ∷ rest (y ∷ ys)
          | false ↦ elim (eqb (key x) (key y)) [ true ↦ choose x y ∷ rest ys | false ↦ y ∷ into x rest ys ]
        ]

    -- the entries of both lists in the order of their keys; of two with one key, the chosen one
    unfoldable pub merge : List A → List A → List A
    merge [] ys = ys
    merge (x ∷ xs) ys = into x (merge xs) ys

-- what stands at a key of the two lists merged, from what stands there in each
unfoldable pub chosen : {A : Type 0} → (A → A → A) → Option A → Option A → Option A
chosen choose none b = b
chosen choose (some x) none = some x
chosen choose (some x) (some y) = some (choose x y)
