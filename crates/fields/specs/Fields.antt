-- Fields in a row of bits. Control data is one number: the first field has its lowest bits, and each next one those above (clause 9;
-- SCOPE 12.1).
use Rattle.std.specs.Prelude.{Bool, true, List, [], ◌∷◌, ℕ, zero, suc, ◌+◌, ◌*◌, ◌/◌, ◌%◌, ◌^◌, ltb}
use Rattle.laws.specs.Pick.{both}

-- a field: its number of bits, and its value
abbrev pub Field : Type 0
Field = ℕ × ℕ

-- values in a row, of w bits each
unfoldable pub alike : ℕ → List ℕ → List Field
alike w [] = []
alike w (x ∷ xs) = (w, x) ∷ alike w xs

-- the number of bits of fields in a row
unfoldable pub width : List Field → ℕ
width [] = 0
width (f ∷ fs) = f.0 + width fs

-- the number whose lowest bits are the first field, then the next, with `rest` above the last
unfoldable pub laid : List Field → ℕ → ℕ
laid [] rest = rest
laid (f ∷ fs) rest = laid fs rest * 2 ^ f.0 + f.1 % 2 ^ f.0

-- each value fits its field
unfoldable pub fitting : List Field → Bool
fitting [] = true
fitting (f ∷ fs) = both (ltb f.1 (2 ^ f.0)) (fitting fs)

-- the w bits of n from the place `at` on. Past its end a number reads as zeros
unfoldable pub field : ℕ → ℕ → ℕ → ℕ
field at w n = n / 2 ^ at % 2 ^ w

-- the k lowest parts of n, of w bits each: its nibbles, its bytes, its words
unfoldable pub parts : ℕ → ℕ → ℕ → List ℕ
parts w zero n = []
parts w (suc k) n = n % 2 ^ w ∷ parts w k (n / 2 ^ w)

-- the number that parts of w bits make, the lowest first
unfoldable pub whole : ℕ → List ℕ → ℕ
whole w [] = 0
whole w (x ∷ xs) = whole w xs * 2 ^ w + x % 2 ^ w
