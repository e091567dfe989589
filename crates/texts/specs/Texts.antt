-- Texts held against each other: the same, one at the front of the other or within it, and the empty lines of one.
use Rattle.std.specs.Prelude.{Bool, true, false, List, [], ◌∷◌, ℕ, ◌+◌, eqb, length}
use Rattle.laws.specs.Pick.{pick, both, either}

-- a text begins with a part
unfoldable pub begins_with : List ℕ → List ℕ → Bool
begins_with [] text = true
begins_with (p ∷ part) [] = false
begins_with (p ∷ part) (x ∷ text) = both (eqb x p) (begins_with part text)

-- the two are as long as each other, and the one begins with the other
abbrev pub same_text : List ℕ → List ℕ → Bool
same_text text other = both (eqb (length text) (length other)) (begins_with other text)

-- a part stands at some place of a text
unfoldable pub stands_in : List ℕ → List ℕ → Bool
stands_in part [] = begins_with part []
stands_in part (x ∷ text) = either (begins_with part (x ∷ text)) (stands_in part text)

-- how many lines are empty, behind a byte that ended a line or didn't: 10 ends a line
unfoldable pub empty_from : List ℕ → Bool → ℕ
empty_from [] ended = 0
empty_from (x ∷ text) ended = pick (both (eqb x 10) ended) 1 0 + empty_from text (eqb x 10)

-- how many lines of a text are empty, its first line aside
abbrev pub empty_lines : List ℕ → ℕ
empty_lines text = empty_from text false
