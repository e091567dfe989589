-- The four parity checks as rows of eight bits, and the place of the fault that they find (SCOPE 5.5).
use Rattle.std.specs.Prelude.{List, [], ◌∷◌, map, ℕ, zero, suc, ◌+◌, ◌*◌, ◌/◌, ◌%◌, eqb, get_or}
use Rattle.laws.specs.Pick.{pick}
use Rattle.octet.specs.Bits.{number}

-- the checks as rows over P1 D1 P2 D2 P3 D3 P4 D4: in each a right byte has an odd number of ones
unfoldable pub checks : List (List ℕ)
checks =
    (1 ∷ 1 ∷ 0 ∷ 0 ∷ 0 ∷ 1 ∷ 0 ∷ 1 ∷ [])
    ∷ (0 ∷ 1 ∷ 1 ∷ 1 ∷ 0 ∷ 0 ∷ 0 ∷ 1 ∷ [])
    ∷ (0 ∷ 1 ∷ 0 ∷ 1 ∷ 1 ∷ 1 ∷ 0 ∷ 0 ∷ [])
    ∷ (1 ∷ 1 ∷ 1 ∷ 1 ∷ 1 ∷ 1 ∷ 1 ∷ 1 ∷ [])
    ∷ []

-- a row multiplied with b's bits
unfoldable pub product : List ℕ → ℕ → ℕ
product [] b = 0
product (r ∷ row) b = r * (b % 2) + product row (b / 2)

-- 1 where the check fails at b: its product is even
unfoldable pub fails : List ℕ → ℕ → ℕ
fails row b = (1 + product row b) % 2

-- the checks that fail at b, as the bits of a number, the first check's lowest
unfoldable pub failing : ℕ → ℕ
failing b = number (map (λ (row : List ℕ). fails row b) checks)

-- the checks that a fault at place i makes fail: those with a 1 in column i
unfoldable pub column : ℕ → ℕ
column i = number (map (λ (row : List ℕ). get_or row i 0) checks)

-- the first of the k places from i on whose column is s; 16 where there is none
unfoldable pub place_from : ℕ → ℕ → ℕ → ℕ
place_from zero i s = 16
place_from (suc k) i s = pick (eqb (column i) s) i (place_from k (suc i) s)

-- the fault place: 8 where no check fails, else the bit 0 to 7 at which a fault makes just those checks fail, or 16: it can't
-- be mended
unfoldable pub fault_place : ℕ → ℕ
fault_place b = pick (eqb (failing b) 0) 8 (place_from 8 0 (failing b))

-- b with its bit i turned over
unfoldable pub turned_over : ℕ → ℕ → ℕ
turned_over zero b = b / 2 * 2 + (1 + b) % 2
turned_over (suc i) b = b % 2 + 2 * turned_over i (b / 2)

-- the byte b mended at a fault place: 8 is no place of a byte and changes nothing
unfoldable pub mended : ℕ → ℕ → ℕ
mended i b = turned_over i b % 256
