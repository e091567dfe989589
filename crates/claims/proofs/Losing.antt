-- Laws of nearness and of what may be lost. Assumes nothing.
use mathlib.Core.Path.{◌≡◌, refl, sym, ap, ap₂, subst}
use mathlib.Core.List.{List, [], ◌∷◌, ◌++◌, map}
use Prim.Native.Nat.{ℕ, zero, suc}
use lib.ListN.{length, take, drop}
use Rattle.laws.specs.Each.{Each, nil, and}
use Rattle.claims.specs.Noise.{Near, none, more, Came, over, kept, lost}
use Rattle.claims.specs.Lists.{Among}
use Rattle.claims.specs.Lists

pub near-length : {R : ℕ → ℕ → Type 0} {l m : List ℕ} → Near R l m → length l ≡ length m
near-length none = refl
near-length (more h n) = ap suc (near-length n)

pub near-append : {R : ℕ → ℕ → Type 0} {l m l' m' : List ℕ} → Near R l m → Near R l' m' → Near R (l ++ l') (m ++ m')
near-append none n = n
near-append (more h k) n = more h (near-append k n)

pub near-drop : {R : ℕ → ℕ → Type 0} {l m : List ℕ} (n : ℕ) → Near R l m → Near R (drop n l) (drop n m)
near-drop zero k = k
near-drop (suc n) none = none
near-drop (suc n) (more h k) = near-drop n k

pub near-take : {R : ℕ → ℕ → Type 0} {l m : List ℕ} (n : ℕ) → Near R l m → Near R (take n l) (take n m)
near-take zero k = none
near-take (suc n) none = none
near-take (suc n) (more h k) = more h (near-take n k)

module _ {ℓ} {A B : Type ℓ} {L : Type 0} {R : A → B → Type 0} where
  -- where loss is allowed, all may be lost
  pub lost-all : L → (l : List A) → Came L R l []
  lost-all x [] = over
  lost-all x (a ∷ l) = lost x (lost-all x l)

  pub came-append : {l l' : List A} {m m' : List B} → Came L R l m → Came L R l' m' → Came L R (l ++ l') (m ++ m')
  came-append over n = n
  came-append (kept r k) n = kept r (came-append k n)
  came-append (lost x k) n = lost x (came-append k n)

-- all may come as it is
pub came_refl : {A : Type 0} {L : Type 0} (l : List A) → Came L ◌≡◌ l l
came_refl [] = over
came_refl (a ∷ l) = kept refl (came_refl l)

-- what is true of each that was sent is true of each that comes
pub came_each : {A : Type 0} {L : Type 0} (P : A → Type 0) {l m : List A} → Came L ◌≡◌ l m → Each P l → Each P m
came_each P over nil = nil
came_each P (kept e c) (and p r) = and (subst P e p) (came_each P c r)
came_each P (lost x c) (and p r) = came_each P c r

pub came_map : {A B : Type 0} {L : Type 0} (f : A → B) {l m : List A} → Came L ◌≡◌ l m → Came L ◌≡◌ (map f l) (map f m)
came_map f over = over
came_map f (kept e c) = kept (ap f e) (came_map f c)
came_map f (lost x c) = lost x (came_map f c)

-- ---- in the customer's words, where what is kept is the very thing that was sent

module _ {ℓ} {A : Type ℓ} {L : Type 0} {R : A → A → Type 0} (equal : (a b : A) → R a b → a ≡ b) where
  -- where nothing may be lost, what comes is what was sent
  pub came-exactly : (L → ⊥) → {l m : List A} → Came L R l m → m ≡ l
  came-exactly never over = refl
  came-exactly never (kept {a} {b} r k) = ap₂ (λ (x : A) (xs : List A). x ∷ xs) (sym (equal a b r)) (came-exactly never k)
  came-exactly never (lost x k) = absurd (never x)

  -- else what comes is among what was sent
  pub came-among : {l m : List A} → Came L R l m → Among m l
  came-among over = Lists.none
  came-among (kept {a} {b} {l} {m} r k) = subst (λ (x : A). Among (x ∷ m) (a ∷ l)) (equal a b r) (Lists.taken (came-among k))
  came-among (lost x k) = Lists.passed (came-among k)

-- what is left out stays left out
pub among-map : {A B : Type 0} (f : A → B) {l m : List A} → Among l m → Among (map f l) (map f m)
among-map f Lists.none = Lists.none
among-map f (Lists.taken r) = Lists.taken (among-map f r)
among-map f (Lists.passed r) = Lists.passed (among-map f r)
