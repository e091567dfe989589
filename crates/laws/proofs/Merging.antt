-- Rising lists merged: one law a case, an induction along the merge, and what follows of each list that rises. Assumes nothing.
use mathlib.Core.Path.{◌≡◌, ◌∙◌, refl, sym, ap}
use mathlib.Core.Bool.{Bool, true, false}
use mathlib.Core.List.{List, [], ◌∷◌}
use mathlib.Core.Option.{none, some}
use Prim.Native.Nat.{ℕ, suc, ◌≤◌, ◌<◌}
use native.Mathlib.Omega.{arith}
use lib.Dec.{leb, ltb, eqb}
use borrow.Author.Tests.{ltb-true, ltb-false, leb-true, eqb-true, eqb-false, lt-ltb, le-ltb, le-leb, eq-eqb, ne_eqb}
use Rattle.laws.specs.Keyed.{rising_from, lookup, into, merge}
use Rattle.laws.proofs.Tests.{both_true, both-holds}

module _ {A : Type 0} (key : A → ℕ) (choose : A → A → A) where
  pub merge-right : (xs : List A) → merge key choose xs [] ≡ xs
  unfolding merge into
  merge-right [] = refl
  merge-right (x ∷ xs) = ap (λ (r : List A). x ∷ r) (merge-right xs)

  pub merge_less :
      (x : A) (xs : List A) (y : A) (ys : List A) → key x < key y
      → merge key choose (x ∷ xs) (y ∷ ys) ≡ x ∷ merge key choose xs (y ∷ ys)
  unfolding merge into
  merge_less x xs y ys h = rw (lt-ltb (key x) (key y) h, into)

  pub merge-same :
      (x : A) (xs : List A) (y : A) (ys : List A) → key x ≡ key y
      → merge key choose (x ∷ xs) (y ∷ ys) ≡ choose x y ∷ merge key choose xs ys
  unfolding merge into
  merge-same x xs y ys h = rw (le-ltb (key x) (key y) (omega arith), eq-eqb (key x) (key y) h, into)

  pub merge-more :
      (x : A) (xs : List A) (y : A) (ys : List A) → key y < key x
      → merge key choose (x ∷ xs) (y ∷ ys) ≡ y ∷ merge key choose (x ∷ xs) ys
  unfolding merge into
  merge-more x xs y ys h = rw (le-ltb (key x) (key y) (omega arith), ne_eqb (key x) (key y) (λ e. omega arith), into)

  -- what holds of the two lists at each step of their merging
  module _
      (P : List A → List A → Type 0)
      (right : (ys : List A) → P [] ys)
      (left : (xs : List A) → P xs [])
      (less : (x : A) (xs : List A) (y : A) (ys : List A) → key x < key y → P xs (y ∷ ys) → P (x ∷ xs) (y ∷ ys))
      (same : (x : A) (xs : List A) (y : A) (ys : List A) → key x ≡ key y → P xs ys → P (x ∷ xs) (y ∷ ys))
      (more : (x : A) (xs : List A) (y : A) (ys : List A) → key y < key x → P (x ∷ xs) ys → P (x ∷ xs) (y ∷ ys)) where
    by-second : (x : A) (xs : List A) → ((ys : List A) → P xs ys) → (ys : List A) → P (x ∷ xs) ys
    by-second x xs f [] = left (x ∷ xs)
    by-second x xs f (y ∷ ys) = go (ltb (key x) (key y)) refl (eqb (key x) (key y)) refl (by-second x xs f ys)
      where
        go : (l : Bool) → ltb (key x) (key y) ≡ l → (e : Bool) → eqb (key x) (key y) ≡ e → P (x ∷ xs) ys → P (x ∷ xs) (y ∷ ys)
        go true l e₀ e ih = less x xs y ys (ltb-true (key x) (key y) l) (f (y ∷ ys))
        go false l true e ih = same x xs y ys (eqb-true (key x) (key y) e) (f ys)
        go false l false e ih =
            let n = eqb-false (key x) (key y) e in more x xs y ys (omega (arith, ltb-false (key x) (key y) l)) ih

    pub along : (xs ys : List A) → P xs ys
    along [] ys = right ys
    along (x ∷ xs) ys = by-second x xs (along xs) ys

-- ---- a rising list

module _ {A : Type 0} (key : A → ℕ) where
  pub rising-first : (l : ℕ) (x : A) (xs : List A) → rising_from key l (x ∷ xs) ≡ true → l ≤ key x
  unfolding rising_from
  rising-first l x xs h = leb-true l (key x) (both_true (leb l (key x)) _ h).0

  pub rising-rest : (l : ℕ) (x : A) (xs : List A) → rising_from key l (x ∷ xs) ≡ true → rising_from key (suc (key x)) xs ≡ true
  unfolding rising_from
  rising-rest l x xs h = (both_true (leb l (key x)) _ h).1

  pub rising-cons : (l : ℕ) (x : A) (xs : List A) → l ≤ key x → rising_from key (suc (key x)) xs ≡ true → rising_from key l (x ∷ xs) ≡ true
  unfolding rising_from
  rising-cons l x xs h r = both-holds (leb l (key x)) _ (le-leb l (key x) h) r

  -- from a smaller key on, too
  pub rising-lower : (l m : ℕ) (xs : List A) → m ≤ l → rising_from key l xs ≡ true → rising_from key m xs ≡ true
  unfolding rising_from
  rising-lower l m [] h r = refl
  rising-lower l m (x ∷ xs) h r =
      let f = rising-first l x xs r in rising-cons m x xs (omega arith) (rising-rest l x xs r)

  -- behind an entry of a smaller key
  pub rising-behind :
      (l : ℕ) (x y : A) (ys : List A) → key x < key y → rising_from key l (y ∷ ys) ≡ true → rising_from key (suc (key x)) (y ∷ ys) ≡ true
  rising-behind l x y ys h r = rising-cons (suc (key x)) y ys h (rising-rest l y ys r)

  -- ---- what stands at a key

  pub lookup-here : (k : ℕ) (x : A) (xs : List A) → key x ≡ k → lookup key k (x ∷ xs) ≡ some x
  unfolding lookup
  lookup-here k x xs h = rw (eq-eqb (key x) k h)

  pub lookup-past : (k : ℕ) (x : A) (xs : List A) → (key x ≡ k → ⊥) → lookup key k (x ∷ xs) ≡ lookup key k xs
  unfolding lookup
  lookup-past k x xs h = rw (ne_eqb (key x) k h)

  -- nothing below the least key
  pub lookup-below : (k l : ℕ) (xs : List A) → k < l → rising_from key l xs ≡ true → lookup key k xs ≡ none
  unfolding lookup
  lookup-below k l [] h r = refl
  lookup-below k l (x ∷ xs) h r =
      let f = rising-first l x xs r in
      lookup-past k x xs (λ e. omega arith) ∙ lookup-below k (suc (key x)) xs (omega arith) (rising-rest l x xs r)

  -- whether an entry's key is the one that is looked for
  pub at_key : {P : Type 0} (x : A) (k : ℕ) → (key x ≡ k → P) → ((key x ≡ k → ⊥) → P) → P
  at_key {P} x k f g = go (eqb (key x) k) refl
    where
      go : (t : Bool) → eqb (key x) k ≡ t → P
      go true e = f (eqb-true (key x) k e)
      go false e = g (eqb-false (key x) k e)

  no_entry : {x : A} → none ≡ some x → ⊥
  no_entry p = let z : ◌≡◌ {A = ℕ} 0 1 = cc in omega arith

  -- rising lists in which the same stands at each key are equal
  pub rising-only :
      (l : ℕ) (xs ys : List A) → rising_from key l xs ≡ true → rising_from key l ys ≡ true
      → ((k : ℕ) → lookup key k xs ≡ lookup key k ys) → xs ≡ ys
  unfolding lookup
  rising-only l [] [] p q e = refl
  rising-only l [] (y ∷ ys) p q e = absurd (no_entry (e (key y) ∙ lookup-here (key y) y ys refl))
  rising-only l (x ∷ xs) [] p q e = absurd (no_entry (sym (e (key x)) ∙ lookup-here (key x) x xs refl))
  rising-only l (x ∷ xs) (y ∷ ys) p q e = go (ltb (key x) (key y)) refl (ltb (key y) (key x)) refl (rising-only (suc (key x)) xs ys)
    where
      tails : key x ≡ key y → (k : ℕ) → lookup key k xs ≡ lookup key k ys
      tails h k =
          at_key x k
          (λ f.
          lookup-below k (suc (key x)) xs (omega arith) (rising-rest l x xs p)
          ∙ sym (lookup-below k (suc (key y)) ys (omega arith) (rising-rest l y ys q)))
          λ f. sym (lookup-past k x xs f) ∙ e k ∙ lookup-past k y ys (λ g. f (h ∙ g))

      heads : key x ≡ key y → x ≡ y
      heads h = let g = sym (lookup-here (key x) x xs refl) ∙ e (key x) ∙ lookup-here (key x) y ys (sym h) in cc

      go :
          (a : Bool) → ltb (key x) (key y) ≡ a → (b : Bool) → ltb (key y) (key x) ≡ b
          → (rising_from key (suc (key x)) xs ≡ true → rising_from key (suc (key x)) ys ≡ true → ((k : ℕ) → lookup key k xs ≡ lookup key k ys) → xs ≡ ys)
          → x ∷ xs ≡ y ∷ ys
      go true a b₀ b ih =
          absurd
          (no_entry
          (sym
          (sym (lookup-here (key x) x xs refl)
          ∙ e (key x)
          ∙ lookup-below (key x) (suc (key x)) (y ∷ ys) (omega arith) (rising-behind l x y ys (ltb-true (key x) (key y) a) q))))
      go false a true b ih =
          absurd
          (no_entry
          (sym (lookup-below (key y) (suc (key y)) (x ∷ xs) (omega arith) (rising-behind l y x xs (ltb-true (key y) (key x) b) p))
          ∙ e (key y)
          ∙ lookup-here (key y) y ys refl))
      go false a false b ih =
          let h : key x ≡ key y = omega (arith, ltb-false (key x) (key y) a, ltb-false (key y) (key x) b) in
          let t = ih (rising-rest l x xs p) (rw h (rising-rest l y ys q)) (tails h) in
          let g = heads h in
          cc
