-- A program's rows (SCOPE 13.12). A row is a word, the letters of the options that it takes and its places, a space between them and an
-- LF behind them.
use Rattle.std.specs.Prelude.{Bool, true, List, [], ◌∷◌, ℕ, suc, ◌+◌, eqb, take, drop}
use Rattle.laws.specs.Pick.{pick, both}
use Rattle.texts.specs.Texts.{same_text}

abbrev pub space : ℕ
space = 32

abbrev pub line_end : ℕ
line_end = 10

-- how many bytes stand before the first b; all where there is none
unfoldable pub before : ℕ → List ℕ → ℕ
before b [] = 0
before b (x ∷ t) = pick (eqb x b) 0 (suc (before b t))

-- what stands before the first b, and what stands behind it
unfoldable pub up_to : ℕ → List ℕ → List ℕ
up_to b t = take (before b t) t

unfoldable pub behind : ℕ → List ℕ → List ℕ
behind b t = drop (before b t + 1) t

-- the three parts of the row that begins at place i of a text
abbrev pub word_at : List ℕ → ℕ → List ℕ
word_at t i = up_to space (drop i t)

abbrev pub letters_at : List ℕ → ℕ → List ℕ
letters_at t i = up_to space (behind space (drop i t))

abbrev pub places_at : List ℕ → ℕ → List ℕ
places_at t i = up_to line_end (behind space (behind space (drop i t)))

-- where the row of a word begins in what is left of a text, from place i on; the text's end where there is none
unfoldable pub row_from : List ℕ → Bool → ℕ → List ℕ → ℕ
row_from [] first i w = i
row_from (b ∷ t) first i w = pick (both first (same_text w (up_to space (b ∷ t)))) i (row_from t (eqb b line_end) (suc i) w)

abbrev pub row_of : List ℕ → List ℕ → ℕ
row_of t w = row_from t true 0 w
