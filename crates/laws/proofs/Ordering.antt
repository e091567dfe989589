-- Orders as tests: numbers, bytes, one order and then another; and the greater of two, which is at least each of them and is one of
-- them, so that in which order and grouping it is taken can't matter. Assumes nothing.
use mathlib.Core.Path.{◌≡◌, ◌∙◌, refl, sym, ap}
use mathlib.Core.Bool.{Bool, true, false}
use mathlib.Core.List.{List, [], ◌∷◌}
use Prim.Native.Nat.{ℕ, ◌<◌}
use native.Mathlib.Omega.{arith}
use lib.Dec.{leb, ltb, eqb}
use borrow.Author.Tests.{ltb-true, ltb-false, leb-true, leb-false, eqb-true, eqb-false, lt-ltb, le-ltb, le-leb, eq-eqb}
use Rattle.laws.specs.Pick.{pick}
use Rattle.laws.specs.Orders.{before, in_turn, greater, Ordered}

never : false ≡ true → ⊥
never p = let z : ◌≡◌ {A = ℕ} 0 1 = ap (λ (b : Bool). pick b 1 0) p in omega arith

-- ---- numbers, and an order on what is made of each

pub ordered-numbers : Ordered leb
ordered-numbers =
    record {
      total = λ x y e. le-leb y x (omega (arith, leb-false x y e));
      carries = λ x y z p q. le-leb x z (omega (arith, leb-true x y p, leb-true y z q));
    }

module _ {A B : Type 0} {leq : B → B → Bool} (o : Ordered leq) where
  pub ordered-on : (f : A → B) → Ordered (λ (x y : A). leq (f x) (f y))
  ordered-on f = record { total = λ x y. o.total (f x) (f y); carries = λ x y z. o.carries (f x) (f y) (f z) }

-- ---- byte by byte

step : ℕ → ℕ → Bool → Bool
step x y rest = pick (ltb x y) true (pick (eqb x y) rest false)

-- what is before holds at a greater byte, or at an equal one and then of the rest
pub data Step (x y : ℕ) (rest : Bool) : Type 0 where
  less : x < y → Step x y rest
  same : x ≡ y → rest ≡ true → Step x y rest

to_step : (x y : ℕ) (rest : Bool) → step x y rest ≡ true → Step x y rest
unfolding step
to_step x y rest h = go (ltb x y) refl (eqb x y) refl h
  where
    go : (l : Bool) → ltb x y ≡ l → (e : Bool) → eqb x y ≡ e → pick l true (pick e rest false) ≡ true → Step x y rest
    go true l e₀ e p = less (ltb-true x y l)
    go false l true e p = same (eqb-true x y e) p
    go false l false e p = absurd (never p)

from_step : (x y : ℕ) (rest : Bool) → Step x y rest → step x y rest ≡ true
unfolding step
from_step x y rest (less h) = rw (lt-ltb x y h)
from_step x y rest (same e h) = rw (e, le-ltb y y (omega arith), eq-eqb y y refl, h)

before-total : (xs ys : List ℕ) → before xs ys ≡ false → before ys xs ≡ true
unfolding before step
before-total [] ys h = absurd (never (sym h))
before-total (x ∷ xs) [] h = refl
before-total (x ∷ xs) (y ∷ ys) h = go (ltb x y) refl (eqb x y) refl h (before-total xs ys)
  where
    go :
        (l : Bool) → ltb x y ≡ l → (e : Bool) → eqb x y ≡ e → pick l true (pick e (before xs ys) false) ≡ false
        → (before xs ys ≡ false → before ys xs ≡ true) → before (y ∷ ys) (x ∷ xs) ≡ true
    go true l e₀ e p ih = absurd (never (sym p))
    go false l true e p ih = from_step y x (before ys xs) (same (sym (eqb-true x y e)) (ih p))
    go false l false e p ih =
        let n = eqb-false x y e in
        from_step y x (before ys xs) (less (omega (arith, ltb-false x y l)))

before_carries : (xs ys zs : List ℕ) → before xs ys ≡ true → before ys zs ≡ true → before xs zs ≡ true
unfolding before step
before_carries [] ys zs p q = refl
before_carries (x ∷ xs) [] zs p q = absurd (never p)
before_carries (x ∷ xs) (y ∷ ys) [] p q = absurd (never q)
before_carries (x ∷ xs) (y ∷ ys) (z ∷ zs) p q = go (to_step x y _ p) (to_step y z _ q) (before_carries xs ys zs)
  where
    go :
        Step x y (before xs ys) → Step y z (before ys zs) → (before xs ys ≡ true → before ys zs ≡ true → before xs zs ≡ true)
        → before (x ∷ xs) (z ∷ zs) ≡ true
    go (less a) (less b) ih = from_step x z (before xs zs) (less (omega arith))
    go (less a) (same b r) ih = from_step x z (before xs zs) (less (omega arith))
    go (same a r) (less b) ih = from_step x z (before xs zs) (less (omega arith))
    go (same a r) (same b s) ih = from_step x z (before xs zs) (same (a ∙ b) (ih r s))

pub ordered-before : Ordered before
ordered-before = record { total = before-total; carries = before_carries }

-- lists that are before each other are equal
pub before-only : (xs ys : List ℕ) → before xs ys ≡ true → before ys xs ≡ true → xs ≡ ys
unfolding before step
before-only [] [] p q = refl
before-only [] (y ∷ ys) p q = absurd (never q)
before-only (x ∷ xs) [] p q = absurd (never p)
before-only (x ∷ xs) (y ∷ ys) p q = go (to_step x y _ p) (to_step y x _ q) (before-only xs ys)
  where
    go :
        Step x y (before xs ys) → Step y x (before ys xs) → (before xs ys ≡ true → before ys xs ≡ true → xs ≡ ys)
        → ◌≡◌ {A = List ℕ} (x ∷ xs) (y ∷ ys)
    go (less a) (less b) ih = absurd (omega arith)
    go (less a) (same b r) ih = absurd (omega arith)
    go (same a r) (less b) ih = absurd (omega arith)
    go (same a r) (same b s) ih = let e = ih r s in cc

-- ---- one order and then another

module _ {A : Type 0} {first second : A → A → Bool} (a : Ordered first) (b : Ordered second) where
  turn-first : (p q r : Bool) → pick p (pick q r true) false ≡ true → p ≡ true
  turn-first true q r h = refl
  turn-first false q r h = h

  turn-second : (p q r : Bool) → pick p (pick q r true) false ≡ true → q ≡ true → r ≡ true
  turn-second true true r h e = h
  turn-second true false r h e = absurd (never e)
  turn-second false q r h e = absurd (never h)

  turn_holds : (p q r : Bool) → p ≡ true → (q ≡ true → r ≡ true) → pick p (pick q r true) false ≡ true
  turn_holds true true r e h = h refl
  turn_holds true false r e h = refl
  turn_holds false q r e h = e

  turn-total : (x y : A) → in_turn first second x y ≡ false → in_turn first second y x ≡ true
  turn-total x y h = go (first x y) refl (first y x) refl h
    where
      go :
          (p : Bool) → first x y ≡ p → (q : Bool) → first y x ≡ q → pick p (pick q (second x y) true) false ≡ false
          → in_turn first second y x ≡ true
      go true p true q h = rw (p, q) (b.total x y h)
      go true p false q h = absurd (never (sym h))
      go false p q₀ q h = rw (p, a.total x y p)

  -- both orders hold of two that stand so in turn, the second where the first holds both ways
  pub in-turn : (x y : A) → in_turn first second x y ≡ true → (first x y ≡ true) × (first y x ≡ true → second x y ≡ true)
  in-turn x y h = (turn-first (first x y) (first y x) _ h, turn-second (first x y) (first y x) (second x y) h)

  turn-carries : (x y z : A) → in_turn first second x y ≡ true → in_turn first second y z ≡ true → in_turn first second x z ≡ true
  turn-carries x y z h k =
      let p = in-turn x y h in
      let q = in-turn y z k in
      turn_holds (first x z) (first z x) (second x z) (a.carries x y z p.0 q.0)
      λ r. b.carries x y z (p.1 (a.carries y z x q.0 r)) (q.1 (a.carries z x y r p.0))

  pub ordered-turn : Ordered (in_turn first second)
  ordered-turn = record { total = turn-total; carries = turn-carries }

-- ---- the greater of two

module _ {A : Type 0} {leq : A → A → Bool} (o : Ordered leq) where
  pub leq-itself : (x : A) → leq x x ≡ true
  leq-itself x = go (leq x x) refl
    where
      go : (t : Bool) → leq x x ≡ t → leq x x ≡ true
      go true e = e
      go false e = o.total x x e

  pub greater-first : (x y : A) → leq x (greater leq x y) ≡ true
  greater-first x y = go (leq x y) refl
    where
      go : (t : Bool) → leq x y ≡ t → leq x (pick t y x) ≡ true
      go true e = e
      go false e = leq-itself x

  pub greater-second : (x y : A) → leq y (greater leq x y) ≡ true
  greater-second x y = go (leq x y) refl
    where
      go : (t : Bool) → leq x y ≡ t → leq y (pick t y x) ≡ true
      go true e = leq-itself y
      go false e = o.total x y e

  -- it is one of the two
  pub greater-one : (P : A → Type 0) {x y : A} → P x → P y → P (greater leq x y)
  greater-one P {x} {y} p q = go (leq x y)
    where
      go : (t : Bool) → P (pick t y x)
      go true = q
      go false = p

  pub greater-itself : (x : A) → greater leq x x ≡ x
  greater-itself x = rw (leq-itself x)

  -- where entries that stand so both ways are equal, the order and the grouping don't matter
  module _ (Alike : A → Type 0) (only : (x y : A) → Alike x → Alike y → leq x y ≡ true → leq y x ≡ true → x ≡ y) where
    pub greater-either : (x y : A) → Alike x → Alike y → greater leq x y ≡ greater leq y x
    greater-either x y p q =
        only (greater leq x y) (greater leq y x) (greater-one Alike p q) (greater-one Alike q p)
        (greater-one (λ (w : A). leq w (greater leq y x) ≡ true) (greater-second y x) (greater-first y x))
        (greater-one (λ (w : A). leq w (greater leq x y) ≡ true) (greater-second x y) (greater-first x y))

    pub greater-grouping :
        (x y z : A) → Alike x → Alike y → Alike z → greater leq x (greater leq y z) ≡ greater leq (greater leq x y) z
    greater-grouping x y z p q r =
        only l m (greater-one Alike p (greater-one Alike q r)) (greater-one Alike (greater-one Alike p q) r)
        (greater-one Under-m (o.carries x xy m (greater-first x y) (greater-first xy z))
        (greater-one Under-m (o.carries y xy m (greater-second x y) (greater-first xy z)) (greater-second xy z)))
        (greater-one Under-l
        (greater-one Under-l (greater-first x yz) (o.carries y yz l (greater-first y z) (greater-second x yz)))
        (o.carries z yz l (greater-second y z) (greater-second x yz)))
      where
        xy : A
        xy = greater leq x y

        yz : A
        yz = greater leq y z

        l : A
        l = greater leq x yz

        m : A
        m = greater leq xy z

        Under-l : A → Type 0
        Under-l w = leq w l ≡ true

        Under-m : A → Type 0
        Under-m w = leq w m ≡ true
