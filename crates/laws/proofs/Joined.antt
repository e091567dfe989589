-- What a merge holds: it rises, at each key stands the choice of what stands there in each list, and so order, grouping and a list
-- with itself don't matter where they don't to the choice. Assumes nothing.
use mathlib.Core.Path.{◌≡◌, ◌∙◌, refl, sym, ap}
use mathlib.Core.Bool.{Bool, true, false}
use mathlib.Core.List.{List, ◌∷◌}
use mathlib.Core.Option.{Option, none, some}
use mathlib.Core.Logic.{◌⊎◌, inl, inr}
use Prim.Native.Nat.{ℕ, suc}
use native.Mathlib.Omega.{arith}
use lib.Dec.{eqb}
use borrow.Author.Tests.{eqb-true}
use Rattle.laws.specs.Pick.{pick}
use Rattle.laws.specs.Each.{Each, nil, and}
use Rattle.laws.specs.Keyed.{rising_from, lookup, merge, chosen}
use Rattle.laws.specs.Orders.{greater, Ordered, Decides}
use Rattle.laws.proofs.Merging.{merge-right, merge_less, merge-same, merge-more, along, rising-first, rising-rest, rising-cons, rising-behind, rising-only, lookup-here, lookup-past, lookup-below, at_key}
use Rattle.laws.proofs.Ordering.{leq-itself, greater-first, greater-second, greater-one, greater-itself, greater-either, greater-grouping}

module _ {A : Type 0} (key : A → ℕ) (choose : A → A → A) (keeps : (x y : A) → key x ≡ key y → key (choose x y) ≡ key x) where
  Rises : List A → List A → Type 0
  Rises xs ys = (l : ℕ) → rising_from key l xs ≡ true → rising_from key l ys ≡ true → rising_from key l (merge key choose xs ys) ≡ true

  merges-rise : (xs ys : List A) → Rises xs ys
  unfolding Rises merge
  merges-rise =
      along key choose Rises (λ ys l p q. q) (λ xs l p q. rw (merge-right key choose xs) p)
      (λ x xs y ys h ih l p q.
      rw (merge_less key choose x xs y ys h)
      (rising-cons key l x (merge key choose xs (y ∷ ys)) (rising-first key l x xs p)
      (ih (suc (key x)) (rising-rest key l x xs p) (rising-behind key l x y ys h q))))
      (λ x xs y ys h ih l p q.
      let k = keeps x y h in
      rw (merge-same key choose x xs y ys h)
      (rising-cons key l (choose x y) (merge key choose xs ys) (let f = rising-first key l x xs p in omega arith)
      (rw k (ih (suc (key x)) (rising-rest key l x xs p) (rw h (rising-rest key l y ys q))))))
      λ x xs y ys h ih l p q.
      rw (merge-more key choose x xs y ys h)
      (rising-cons key l y (merge key choose (x ∷ xs) ys) (rising-first key l y ys q)
      (ih (suc (key y)) (rising-behind key l y x xs h p) (rising-rest key l y ys q)))

  pub merge-rises :
      (l : ℕ) (xs ys : List A) → rising_from key l xs ≡ true → rising_from key l ys ≡ true
      → rising_from key l (merge key choose xs ys) ≡ true
  unfolding Rises
  merge-rises l xs ys = merges-rise xs ys l

  pub chosen-right : (o : Option A) → chosen choose o none ≡ o
  unfolding chosen
  chosen-right none = refl
  chosen-right (some x) = refl

  Looks : List A → List A → Type 0
  Looks xs ys =
      (l k : ℕ) → rising_from key l xs ≡ true → rising_from key l ys ≡ true
      → lookup key k (merge key choose xs ys) ≡ chosen choose (lookup key k xs) (lookup key k ys)

  lookups : (xs ys : List A) → Looks xs ys
  unfolding Looks merge chosen lookup
  lookups =
      along key choose Looks (λ ys l k p q. refl) (λ xs l k p q. rw (merge-right key choose xs) (sym (chosen-right (lookup key k xs))))
      (λ x xs y ys h ih l k p q.
      rw (merge_less key choose x xs y ys h)
      (at_key key x k
      (λ e.
      rw (
        lookup-here key k x (merge key choose xs (y ∷ ys)) e,
        lookup-here key k x xs e,
        lookup-below key k (suc (key x)) (y ∷ ys) (omega arith) (rising-behind key l x y ys h q),
      ) refl)
      (λ n.
      rw (lookup-past key k x (merge key choose xs (y ∷ ys)) n, lookup-past key k x xs n)
      (ih (suc (key x)) k (rising-rest key l x xs p) (rising-behind key l x y ys h q)))))
      (λ x xs y ys h ih l k p q.
      rw (merge-same key choose x xs y ys h)
      (at_key key x k
      (λ e.
      rw (
        lookup-here key k (choose x y) (merge key choose xs ys) (keeps x y h ∙ e),
        lookup-here key k x xs e,
        lookup-here key k y ys (sym h ∙ e),
      ) refl)
      (λ n.
      rw (
        lookup-past key k (choose x y) (merge key choose xs ys) (λ e. n (sym (keeps x y h) ∙ e)),
        lookup-past key k x xs n,
        lookup-past key k y ys (λ e. n (h ∙ e)),
      )
      (ih (suc (key x)) k (rising-rest key l x xs p) (rw h (rising-rest key l y ys q))))))
      λ x xs y ys h ih l k p q.
      rw (merge-more key choose x xs y ys h)
      (at_key key y k
      (λ e.
      rw (
        lookup-here key k y (merge key choose (x ∷ xs) ys) e,
        lookup-here key k y ys e,
        lookup-below key k (suc (key y)) (x ∷ xs) (omega arith) (rising-behind key l y x xs h p),
      ) refl)
      (λ n.
      rw (lookup-past key k y (merge key choose (x ∷ xs) ys) n, lookup-past key k y ys n)
      (ih (suc (key y)) k (rising-behind key l y x xs h p) (rising-rest key l y ys q))))

  -- at each key stands the choice of what stands there in each list
  pub lookup-merge :
      (l k : ℕ) (xs ys : List A) → rising_from key l xs ≡ true → rising_from key l ys ≡ true
      → lookup key k (merge key choose xs ys) ≡ chosen choose (lookup key k xs) (lookup key k ys)
  unfolding Looks
  lookup-merge l k xs ys = lookups xs ys l k

-- ---- what stands at a key, and the choice of two by an order

-- P holds of what stands there, if anything does
data Held {A : Type 0} (P : A → Type 0) : Option A → Type 0 where
  nothing : Held P none
  entry : {x : A} → P x → Held P (some x)

module _ {A : Type 0} {leq : A → A → Bool} (o : Ordered leq) where
  chosen-itself : (a : Option A) → chosen (greater leq) a a ≡ a
  unfolding chosen
  chosen-itself none = refl
  chosen-itself (some x) = ap some (greater-itself o x)

  module _ (Alike : A → Type 0) (only : (x y : A) → Alike x → Alike y → leq x y ≡ true → leq y x ≡ true → x ≡ y) where
    chosen-either : {a b : Option A} → Held Alike a → Held Alike b → chosen (greater leq) a b ≡ chosen (greater leq) b a
    unfolding chosen
    chosen-either nothing nothing = refl
    chosen-either nothing (entry q) = refl
    chosen-either (entry p) nothing = refl
    chosen-either (entry {x} p) (entry {x = y} q) = ap some (greater-either o Alike only x y p q)

    chosen-grouping :
        {a b c : Option A} → Held Alike a → Held Alike b → Held Alike c
        → chosen (greater leq) a (chosen (greater leq) b c) ≡ chosen (greater leq) (chosen (greater leq) a b) c
    unfolding chosen
    chosen-grouping nothing q r = refl
    chosen-grouping (entry p) nothing r = refl
    chosen-grouping (entry p) (entry q) nothing = refl
    chosen-grouping (entry {x} p) (entry {x = y} q) (entry {x = z} r) = ap some (greater-grouping o Alike only x y z p q r)

module _ {A : Type 0} (key : A → ℕ) where
  -- what stands at a key has that key, and what holds of each entry
  looked-up : {P : A → Type 0} (k : ℕ) {xs : List A} → Each P xs → Held (λ (w : A). P w × (key w ≡ k)) (lookup key k xs)
  unfolding lookup
  looked-up k nil = nothing
  looked-up {P} k (and {a = x} {l = xs} p ps) = go (eqb (key x) k) refl (looked-up k ps)
    where
      go :
          (t : Bool) → eqb (key x) k ≡ t → Held (λ (w : A). P w × (key w ≡ k)) (lookup key k xs)
          → Held (λ (w : A). P w × (key w ≡ k)) (pick t (some x) (lookup key k xs))
      go true e ih = entry (p, eqb-true (key x) k e)
      go false e ih = ih

-- ---- lists joined: merged, with the greater of two at each key

module _ {A : Type 0} (key : A → ℕ) (Fit : A → Type 0) (leq : A → A → Bool) (d : Decides key Fit leq) where
  abbrev join : List A → List A → List A
  join = merge key (greater leq)

  keeps : (x y : A) → key x ≡ key y → key (greater leq x y) ≡ key x
  keeps x y h = greater-one d.ordered (λ (w : A). key w ≡ key x) refl (sym h)

  Alike : ℕ → A → Type 0
  Alike k w = Fit w × (key w ≡ k)

  alike-only : (k : ℕ) (x y : A) → Alike k x → Alike k y → leq x y ≡ true → leq y x ≡ true → x ≡ y
  unfolding Alike
  alike-only k x y p q = d.only x y p.0 q.0 (p.1 ∙ sym q.1)

  pub join-rises : (l : ℕ) (xs ys : List A) → rising_from key l xs ≡ true → rising_from key l ys ≡ true → rising_from key l (join xs ys) ≡ true
  join-rises l xs ys = merge-rises key (greater leq) keeps l xs ys

  -- at each key stands the greater of what stands there in each list
  pub join-lookup :
      (l k : ℕ) (xs ys : List A) → rising_from key l xs ≡ true → rising_from key l ys ≡ true
      → lookup key k (join xs ys) ≡ chosen (greater leq) (lookup key k xs) (lookup key k ys)
  join-lookup l k xs ys = lookup-merge key (greater leq) keeps l k xs ys

  Keeps-each : (A → Type 0) → List A → List A → Type 0
  Keeps-each P xs ys = Each P xs → Each P ys → Each P (join xs ys)

  each_both : (P : A → Type 0) (xs ys : List A) → Keeps-each P xs ys
  unfolding Keeps-each merge
  each_both P =
      along key (greater leq) (Keeps-each P) (λ ys p q. q) (λ xs p q. rw (merge-right key (greater leq) xs) p)
      (λ x xs y ys h ih p q. rw (merge_less key (greater leq) x xs y ys h) (both_first p ih q))
      (λ x xs y ys h ih p q. rw (merge-same key (greater leq) x xs y ys h) (both-same p q ih))
      λ x xs y ys h ih p q. rw (merge-more key (greater leq) x xs y ys h) (both-second q (ih p))
    where
      both_first : {x : A} {xs zs ws : List A} → Each P (x ∷ xs) → (Each P xs → Each P zs → Each P ws) → Each P zs → Each P (x ∷ ws)
      both_first (and p ps) f q = and p (f ps q)

      both-second : {y : A} {ys ws : List A} → Each P (y ∷ ys) → (Each P ys → Each P ws) → Each P (y ∷ ws)
      both-second (and q qs) f = and q (f qs)

      both-same :
          {x y : A} {xs ys ws : List A} → Each P (x ∷ xs) → Each P (y ∷ ys) → (Each P xs → Each P ys → Each P ws)
          → Each P (greater leq x y ∷ ws)
      both-same (and p ps) (and q qs) f = and (greater-one d.ordered P p q) (f ps qs)

  -- every entry of the joined list is one of theirs: what holds of all of theirs holds of all of its
  pub join-each : (P : A → Type 0) (xs ys : List A) → Each P xs → Each P ys → Each P (join xs ys)
  unfolding Keeps-each
  join-each P xs ys = each_both P xs ys

  -- either order
  pub join-either :
      (l : ℕ) (xs ys : List A) → rising_from key l xs ≡ true → rising_from key l ys ≡ true → Each Fit xs → Each Fit ys
      → join xs ys ≡ join ys xs
  unfolding Alike
  join-either l xs ys p q f g =
      rising-only key l (join xs ys) (join ys xs) (join-rises l xs ys p q) (join-rises l ys xs q p)
      λ k. join-lookup l k xs ys p q
      ∙ chosen-either d.ordered (Alike k) (alike-only k) (looked-up key k f) (looked-up key k g)
      ∙ sym (join-lookup l k ys xs q p)

  -- either grouping
  pub join-grouping :
      (l : ℕ) (xs ys zs : List A) → rising_from key l xs ≡ true → rising_from key l ys ≡ true → rising_from key l zs ≡ true
      → Each Fit xs → Each Fit ys → Each Fit zs → join xs (join ys zs) ≡ join (join xs ys) zs
  unfolding Alike
  join-grouping l xs ys zs p q r f g h =
      rising-only key l (join xs (join ys zs)) (join (join xs ys) zs)
      (join-rises l xs (join ys zs) p (join-rises l ys zs q r)) (join-rises l (join xs ys) zs (join-rises l xs ys p q) r)
      λ k.
      join-lookup l k xs (join ys zs) p (join-rises l ys zs q r)
      ∙ ap (chosen (greater leq) (lookup key k xs)) (join-lookup l k ys zs q r)
      ∙ chosen-grouping d.ordered (Alike k) (alike-only k) (looked-up key k f) (looked-up key k g) (looked-up key k h)
      ∙ ap (λ (o : Option A). chosen (greater leq) o (lookup key k zs)) (sym (join-lookup l k xs ys p q))
      ∙ sym (join-lookup l k (join xs ys) zs (join-rises l xs ys p q) r)

  -- a list with itself
  pub join-itself : (l : ℕ) (xs : List A) → rising_from key l xs ≡ true → join xs xs ≡ xs
  join-itself l xs p =
      rising-only key l (join xs xs) xs (join-rises l xs xs p p) p
      λ k. join-lookup l k xs xs p p ∙ chosen-itself d.ordered (lookup key k xs)

  -- never back: at each key of either list the joined list has an entry that stands at or above theirs
  first-stays : {a : Option A} (b : Option A) {x : A} → a ≡ some x → (z : A) × (chosen (greater leq) a b ≡ some z) × (leq x z ≡ true)
  unfolding chosen
  first-stays b {x} e = rw e (go b)
    where
      go : (b : Option A) → (z : A) × (chosen (greater leq) (some x) b ≡ some z) × (leq x z ≡ true)
      go none = (x, refl, leq-itself d.ordered x)
      go (some y) = (greater leq x y, refl, greater-first d.ordered x y)

  second-stays : (a : Option A) {b : Option A} {y : A} → b ≡ some y → (z : A) × (chosen (greater leq) a b ≡ some z) × (leq y z ≡ true)
  unfolding chosen
  second-stays a {y} e = rw e (go a)
    where
      go : (a : Option A) → (z : A) × (chosen (greater leq) a (some y) ≡ some z) × (leq y z ≡ true)
      go none = (y, refl, leq-itself d.ordered y)
      go (some x) = (greater leq x y, refl, greater-second d.ordered x y)

  pub never-back-first :
      (l k : ℕ) (xs ys : List A) {x : A} → rising_from key l xs ≡ true → rising_from key l ys ≡ true → lookup key k xs ≡ some x
      → (z : A) × (lookup key k (join xs ys) ≡ some z) × (leq x z ≡ true)
  never-back-first l k xs ys p q e = rw (join-lookup l k xs ys p q) (first-stays (lookup key k ys) e)

  pub never-back-second :
      (l k : ℕ) (xs ys : List A) {y : A} → rising_from key l xs ≡ true → rising_from key l ys ≡ true → lookup key k ys ≡ some y
      → (z : A) × (lookup key k (join xs ys) ≡ some z) × (leq y z ≡ true)
  never-back-second l k xs ys p q e = rw (join-lookup l k xs ys p q) (second-stays (lookup key k xs) e)

  -- every entry of the joined list is one of theirs
  chosen-one : (a b : Option A) {z : A} → chosen (greater leq) a b ≡ some z → (a ≡ some z) ⊎ (b ≡ some z)
  unfolding chosen
  chosen-one none b e = inr e
  chosen-one (some x) none e = inl e
  chosen-one (some x) (some y) {z} e =
      greater-one d.ordered (λ (w : A). some w ≡ some z → (some x ≡ some z) ⊎ (some y ≡ some z)) (λ f. inl f) (λ f. inr f) e

  pub join_one :
      (l k : ℕ) (xs ys : List A) {z : A} → rising_from key l xs ≡ true → rising_from key l ys ≡ true → lookup key k (join xs ys) ≡ some z
      → (lookup key k xs ≡ some z) ⊎ (lookup key k ys ≡ some z)
  join_one l k xs ys p q e = chosen-one (lookup key k xs) (lookup key k ys) (sym (join-lookup l k xs ys p q) ∙ e)
