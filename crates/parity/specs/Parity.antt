-- One byte of a string (A.4; SCOPE 23.4): seven bits of a code, and on top the bit that makes the number of ones odd.
use Rattle.std.specs.Prelude.{Bool, List, [], ◌∷◌, ℕ, zero, suc, ◌+◌, ◌*◌, ◌/◌, ◌%◌, eqb}
use Rattle.laws.specs.Pick.{pick}

-- how many of the k lowest bits of b are ones
unfoldable pub ones : ℕ → ℕ → ℕ
ones zero b = 0
ones (suc k) b = b % 2 + ones k (b / 2)

-- a byte of right parity
unfoldable pub is_odd : ℕ → Bool
is_odd b = eqb (ones 8 b % 2) 1

-- the byte that is sent for a code
unfoldable pub letter : ℕ → ℕ
letter code = code % 128 + 128 * ((1 + ones 7 code) % 2)

-- how many of these come before the first of wrong parity
unfoldable pub odds : List ℕ → ℕ
odds [] = 0
odds (b ∷ bs) = pick (is_odd b) (suc (odds bs)) 0
