-- Tests and tables over the numbers from one place on.
use Rattle.std.specs.Prelude.{Bool, true, List, [], ◌∷◌, ℕ, zero, suc, ◌+◌}
use Rattle.laws.specs.Pick.{pick, both}

-- the test passes at each of the n numbers from i on
abbrev pub all : (ℕ → Bool) → ℕ → ℕ → Bool
all f i zero = true
all f i (suc n) = both (f i) (all f (suc i) n)

-- the list of g's values at the n numbers from i on: a table by its rule
abbrev pub tabulate : (ℕ → ℕ) → ℕ → ℕ → List ℕ
tabulate g i zero = []
tabulate g i (suc n) = g i ∷ tabulate g (suc i) n

-- at how many of the n numbers from i on the test passes
abbrev pub count : (ℕ → Bool) → ℕ → ℕ → ℕ
count f i zero = 0
count f i (suc n) = pick (f i) 1 0 + count f (suc i) n
