-- Menus on a shelf, found by number (SCOPE 23.9). An entry is three bytes that name the entry before it in its row, and a form. It is named by
-- its place, counted from 1, and 0 names none.
use Rattle.std.specs.Prelude.{Bool, true, false, List, [], ◌∷◌, ℕ, zero, suc, ◌+◌, ◌-◌, ◌*◌, ◌/◌, ◌%◌, ◌≤◌, ◌<◌, eqb, leb, ltb, length, get_or, drop}
use Rattle.laws.specs.Pick.{both}

-- three bytes at a place, low byte first; past the end a byte is 0
unfoldable pub three : List ℕ → ℕ → ℕ
three l at = get_or l at 0 + 256 * get_or l (at + 1) 0 + 65536 * get_or l (at + 2) 0

-- a number as three bytes
unfoldable pub three_of : ℕ → List ℕ
three_of v = v % 256 ∷ v / 256 % 256 ∷ v / 256 / 256 % 256 ∷ []

-- the number of the menu whose form begins a list (SCOPE 23.5)
unfoldable pub number_in : List ℕ → ℕ
number_in form = get_or form 2 0 + 256 * get_or form 3 0

-- the row of a number, and what the heads name as the last entry of a row
abbrev pub row_of : ℕ → ℕ
row_of number = number % 256

abbrev pub head_of : ℕ → List ℕ → ℕ
head_of row heads = three heads (3 * row)

-- the entry named p lies within the shelf: its three bytes and its form's first four
abbrev pub standing : ℕ → List ℕ → Bool
standing p shelf = both (leb 1 p) (leb (p + 6) (length shelf))

-- the entry that it names
abbrev pub before : ℕ → List ℕ → ℕ
before p shelf = three shelf (p - 1)

-- the place of its form, counted from 0, and the number of the form's menu
abbrev pub form_place : ℕ → ℕ
form_place p = p + 2

abbrev pub number_at : ℕ → List ℕ → ℕ
number_at p shelf = number_in (drop (form_place p) shelf)

-- the first form with the number on the way back from the entry named p, among n entries: its place, or 0 where there is none. The way
-- ends at an entry that isn't within the shelf, and at one that names none before it
unfoldable pub way_back : ℕ → ℕ → ℕ → List ℕ → ℕ
way_back zero number p shelf = 0
way_back (suc n) number p shelf =
    elim (standing p shelf) [
      | false ↦ 0
      | true ↦
          elim (eqb (number_at p shelf) number) [
            | true ↦ form_place p
            | false ↦ elim (ltb (before p shelf) p) [ true ↦ way_back n number (before p shelf) shelf | false ↦ 0 ]
          ]
    ]

-- the place in the shelf of the form with a number, at least 3; 0 where there is none. From the entry named p the way has at most p
unfoldable pub place_of : ℕ → List ℕ → List ℕ → ℕ
place_of number heads shelf = way_back (head_of (row_of number) heads) number (head_of (row_of number) heads) shelf

-- every entry that the heads name stands whole among the first bytes, those in use; in fewer than seven there is none, and 0 is named
abbrev pub Named : List ℕ → ℕ → Type 0
Named heads used = (row : ℕ) → row < 256 → head_of row heads ≤ used - 6
