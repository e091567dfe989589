-- A text as its codes, so that a definition has the text itself.
use Rattle.std.specs.Prelude.{List, [], ◌∷◌, ℕ, zero, suc}
use Prim.Native.Char.{code}
use Prim.Native.String.{String, len, char_at}

-- the codes of k characters of a text from a place on
abbrev pub codes_from : ℕ → ℕ → String → List ℕ
codes_from zero i s = []
codes_from (suc k) i s = code (char_at s i) ∷ codes_from k (suc i) s

abbrev pub codes : String → List ℕ
codes s = codes_from (len s) 0 s
