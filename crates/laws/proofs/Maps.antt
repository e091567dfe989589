-- What `map` does to parts of a list, and element by element in place. Assumes nothing.
use mathlib.Core.Path.{◌≡◌, refl, ap}
use mathlib.Core.List.{List, [], ◌∷◌, ◌++◌, map, append-nil}
use Prim.Native.Nat.{ℕ, zero, suc, ◌+◌, ◌≤◌, ◌<◌}
use native.Mathlib.Numerals.{add-one}
use native.Mathlib.Omega.{arith}
use lib.ListN.{length, get_or, take, drop, set, drop_of_length-le}
use lib.Seq.{append_snoc, drop-cons, drop-set-lt, take_all, take-suc-set}

module _ {ℓ κ} {A : Type ℓ} {B : Type κ} (f : A → B) where
  pub map-take : (n : ℕ) (l : List A) → map f (take n l) ≡ take n (map f l)
  map-take zero l = refl
  map-take (suc n) [] = refl
  map-take (suc n) (a ∷ l) = ap (λ (r : List B). f a ∷ r) (map-take n l)

  pub map-drop : (n : ℕ) (l : List A) → map f (drop n l) ≡ drop n (map f l)
  map-drop zero l = refl
  map-drop (suc n) [] = refl
  map-drop (suc n) (a ∷ l) = map-drop n l

-- A loop that puts f of each element in its place: what it has passed, then f of what is left, is f of the whole.
module _ {ℓ} {A : Type ℓ} (f : A → A) where
  abbrev pub mapping : ℕ → List A → List A
  mapping i l = take i l ++ map f (drop i l)

  pub map-store : (l : List A) (i : ℕ) (d : A) {x : A} → i < length l → x ≡ f (get_or l i d) → mapping (i + 1) (set l i x) ≡ mapping i l
  map-store l i d {x} h e =
      rw (add-one, take-suc-set l i x h, drop-set-lt (suc i) l i x (omega arith), drop-cons l i d h, e) (append_snoc (take i l) (f (get_or l i d)) (map f (drop (suc i) l)))

  pub map-stored : (l : List A) (i : ℕ) → length l ≤ i → mapping i l ≡ l
  map-stored l i h = rw (drop_of_length-le l h, take_all i l h) (append-nil l)
