-- A test that antt computes over a whole range is handed out at each of its points, and a table that is tabulated from its
-- rule has the rule at each of its entries. Assumes nothing.
use mathlib.Core.Path.{◌≡◌, ◌∙◌, sym, subst, ap}
use mathlib.Core.Bool.{Bool, true, false}
use Prim.Native.Nat.{ℕ, zero, suc, ◌+◌, ◌<◌}
use native.Mathlib.Nat.{add-zero, zero-add, add-suc, suc-add, le_of_suc-le-suc, not-suc-le-zero}
use lib.Dec.{T}
use lib.ListN.{get_or}
use Rattle.laws.specs.Pick.{both}
use Rattle.laws.specs.Range.{all, tabulate}

pub both_left : (a b : Bool) → T (both a b) → T a
both_left true b t = tt
both_left false b t = t

pub both_right : (a b : Bool) → T (both a b) → T b
both_right true b t = t
both_right false b t = absurd t

all_from : (f : ℕ → Bool) (n i : ℕ) → T (all f i n) → (k : ℕ) → k < n → T (f (i + k))
all_from f zero i t k h = absurd (not-suc-le-zero h)
all_from f (suc n) i t zero h = subst (λ (m : ℕ). T (f m)) (sym (add-zero i)) (both_left (f i) (all f (suc i) n) t)
all_from f (suc n) i t (suc k) h =
    subst (λ (m : ℕ). T (f m)) (suc-add i k ∙ sym (add-suc i k))
    (all_from f n (suc i) (both_right (f i) (all f (suc i) n) t) k (le_of_suc-le-suc h))

-- a test that passes at every number below n passes at k
pub all-at : (f : ℕ → Bool) (n : ℕ) → T (all f 0 n) → (k : ℕ) → k < n → T (f k)
all-at f n t k h = subst (λ (m : ℕ). T (f m)) (zero-add k) (all_from f n 0 t k h)

-- the same over pairs
pub all2_at :
    (f : ℕ → ℕ → Bool) (m n : ℕ) → T (all (λ a. all (f a) 0 n) 0 m) → (a b : ℕ) → a < m → b < n → T (f a b)
all2_at f m n t a b ha hb = all-at (f a) n (all-at (λ (x : ℕ). all (f x) 0 n) m t a ha) b hb

tabulate-from : (g : ℕ → ℕ) (n i k : ℕ) → k < n → get_or (tabulate g i n) k 0 ≡ g (i + k)
tabulate-from g zero i k h = absurd (not-suc-le-zero h)
tabulate-from g (suc n) i zero h = ap g (sym (add-zero i))
tabulate-from g (suc n) i (suc k) h =
    tabulate-from g n (suc i) k (le_of_suc-le-suc h) ∙ ap g (suc-add i k ∙ sym (add-suc i k))

-- the entry k of a tabulated table is the rule at k
pub tabulate-at : (g : ℕ → ℕ) (n k : ℕ) → k < n → get_or (tabulate g 0 n) k 0 ≡ g k
tabulate-at g n k h = tabulate-from g n 0 k h ∙ ap g (zero-add k)
