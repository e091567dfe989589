-- What is printed piece by piece: SCOPE 13. Characters are their codes, and 10 ends a line.
use Rattle.std.specs.Prelude.{Bool, true, List, [], ◌∷◌, ◌++◌, ℕ, zero, suc, ◌+◌, ◌/◌, ◌%◌, ltb, leb}
use Rattle.laws.specs.Pick.{pick, both}
use Rattle.text_lines.specs.Codes.{codes}

-- ---- numbers

-- a number's decimal digits, at most k: those of its tenth, where it has one, and then that of the ones
unfoldable pub digits_in : ℕ → ℕ → List ℕ
digits_in zero n = []
digits_in (suc k) n = pick (ltb n 10) [] (digits_in k (n / 10)) ++ ((48 + n % 10) ∷ [])

-- the most digits that a number of 64 bits has
abbrev pub digit_most : ℕ
digit_most = 20

-- a number in decimal digits (SCOPE 13.3)
abbrev pub decimal : ℕ → List ℕ
decimal n = digits_in digit_most n

-- a hex digit, in lower case (SCOPE 13.3)
unfoldable pub digit : ℕ → ℕ
digit n = pick (ltb n 10) (48 + n) (87 + n)

-- two digits a byte
unfoldable pub hexed : List ℕ → List ℕ
hexed [] = []
hexed (b ∷ bs) = digit (b / 16) ∷ digit (b % 16) ∷ hexed bs

-- the three bytes of a word, the highest first
unfoldable pub word_bytes : ℕ → List ℕ
word_bytes w = w / 256 / 256 % 256 ∷ w / 256 % 256 ∷ w % 256 ∷ []

-- ---- a line each

-- a name with its `=`, and a number
unfoldable pub number_line : List ℕ → ℕ → List ℕ
number_line name n = name ++ decimal n ++ (10 ∷ [])

-- `language=`
abbrev pub language_name : List ℕ
language_name = codes "language="

-- `page=`
abbrev pub page_name : List ℕ
page_name = codes "page="

-- one of a..z
abbrev pub letter : ℕ → Bool
letter b = both (leb 97 b) (leb b 122)

unfoldable pub letters : List ℕ → Bool
letters [] = true
letters (b ∷ bs) = both (letter b) (letters bs)

-- a language: its three letters, or six hex digits where one of them isn't a to z (SCOPE 13.4)
unfoldable pub language_of : ℕ → List ℕ
language_of w = pick (letters (word_bytes w)) (word_bytes w) (hexed (word_bytes w))

unfoldable pub language_line : ℕ → List ℕ
language_line w = language_name ++ language_of w ++ (10 ∷ [])

unfoldable pub page_line : ℕ → List ℕ
page_line w = page_name ++ hexed (word_bytes w) ++ (10 ∷ [])
