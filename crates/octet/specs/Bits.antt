-- The bits of a byte, least first, and in how many bits two bytes differ.
use Rattle.std.specs.Prelude.{List, [], ◌∷◌, ℕ, zero, suc, ◌+◌, ◌*◌, ◌/◌, ◌%◌, eqb}
use Rattle.laws.specs.Pick.{pick}

-- the k lowest bits of b, least first
unfoldable pub bits : ℕ → ℕ → List ℕ
bits zero b = []
bits (suc k) b = b % 2 ∷ bits k (b / 2)

-- the number that these bits make, least first
unfoldable pub number : List ℕ → ℕ
number [] = 0
number (d ∷ ds) = d + 2 * number ds

-- in how many of their k lowest bits a and b differ
unfoldable pub differing : ℕ → ℕ → ℕ → ℕ
differing zero a b = 0
differing (suc k) a b = pick (eqb (a % 2) (b % 2)) 0 1 + differing k (a / 2) (b / 2)

-- in how many bits two bytes differ
abbrev pub flips : ℕ → ℕ → ℕ
flips a b = differing 8 a b
