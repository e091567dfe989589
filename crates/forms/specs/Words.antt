-- A word in lent bytes. Past its end a form reads as zeros.
use Rattle.std.specs.Prelude.{List, [], ◌∷◌, ℕ, ◌+◌, get_or}
use Rattle.fields.specs.Fields.{whole}

-- the word at a place, high byte first
abbrev pub word_at : List ℕ → ℕ → ℕ
word_at f i = whole 8 (get_or f (i + 2) 0 ∷ get_or f (i + 1) 0 ∷ get_or f i 0 ∷ [])
