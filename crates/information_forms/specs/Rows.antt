-- A row of values in lent bytes: each as many whole bytes as its width needs, the lowest first.
use Rattle.std.specs.Prelude.{List, [], ◌∷◌, ◌++◌, ℕ, ◌+◌, ◌/◌, min, get_or, drop}
use Rattle.fields.specs.Fields.{parts, whole}
use Rattle.codecs.specs.Rows.{codes_in}

-- the bytes of a value of w bits: one, or two where it has sixteen
abbrev pub bytes_of : ℕ → ℕ
bytes_of w = (w + 7) / 8

-- the bytes of a row of these widths
unfoldable pub row_bytes : List ℕ → ℕ
row_bytes [] = 0
row_bytes (w ∷ ws) = bytes_of w + row_bytes ws

unfoldable pub row_form : List ℕ → List ℕ → List ℕ
row_form [] vs = []
row_form (w ∷ ws) vs = parts 8 (bytes_of w) (get_or vs 0 0) ++ row_form ws (drop 1 vs)

-- back: the values that bytes begin with. Past their end they read as zeros
unfoldable pub row_in : List ℕ → List ℕ → List ℕ
row_in [] f = []
row_in (w ∷ ws) f = whole 8 (codes_in (bytes_of w) f) ∷ row_in ws (drop (bytes_of w) f)

-- widths as far as the bit reader and the pen go; those of tables 11 and 12 are within it
unfoldable pub cut : List ℕ → List ℕ
cut [] = []
cut (w ∷ ws) = min w 24 ∷ cut ws
