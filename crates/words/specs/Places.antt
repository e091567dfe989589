-- Where the names of a row stand (SCOPE 13.12): a letter for each place, in their order. `+` stands before those that come once or more,
-- `*` before those that come any number of times.
use Rattle.std.specs.Prelude.{Bool, true, false, List, ℕ, ◌+◌, eqb, leb, ltb, length, get_or}
use Rattle.laws.specs.Pick.{pick, either}
use Rattle.words.specs.declared.places.Spot.{Spot}
use Rattle.words.specs.Numbers.{number_of, kind_of, most}

abbrev pub spot : ℕ → ℕ → Spot
spot at group = record { at = at; group = group }

-- the marks before places that come again and again
abbrev pub plus : ℕ
plus = 43

abbrev pub star : ℕ
star = 42

-- `+` or `*`
unfoldable pub is_mark : ℕ → Bool
is_mark b = either (eqb b plus) (eqb b star)

-- the place behind a mark that stands at i; the other where none does
unfoldable pub passed : List ℕ → ℕ → ℕ → ℕ
passed p i other = pick (is_mark (get_or p i 0)) (i + 1) other

-- the letter of the next name's place; 0 where no name may come
unfoldable pub letter_at : List ℕ → Spot → ℕ
letter_at p s = get_or p (passed p s.at s.at) 0

-- behind the last place: the group again, or the end where there is no group
unfoldable pub turned : ℕ → ℕ → Spot
turned end group = pick (eqb group 0) (spot end group) (spot group group)

-- one more name came
unfoldable pub after : List ℕ → Spot → Spot
after p s =
    let here = passed p s.at s.at in
    let group = passed p s.at s.group in
    pick (ltb (here + 1) (length p)) (spot (here + 1) group) (turned (length p) group)

-- the names may end: all came, or the group may lack (`*`), or the group came and would begin again
unfoldable pub may_end : List ℕ → Spot → Bool
may_end p s =
    either (leb (length p) s.at) (either (eqb (get_or p s.at 0) star) (pick (eqb s.group 0) false (eqb s.at s.group)))

-- a word names a kind of table
unfoldable pub is_kind : List ℕ → Bool
is_kind w = pick (eqb (kind_of w) 0) false true

-- whether a word can stand at a place: `s` a stamp (SCOPE 20.14), `b` a number up to 65535, `n` up to 255, `k` a kind, 0 none; any other
-- letter, as `f`, a file, which every word names
unfoldable pub fits : ℕ → List ℕ → Bool
fits c w =
    pick (eqb c 0) false
    (pick (eqb c 115) (leb (number_of w) most)
    (pick (eqb c 98) (leb (number_of w) 65535)
    (pick (eqb c 110) (leb (number_of w) 255) (pick (eqb c 107) (is_kind w) true))))
