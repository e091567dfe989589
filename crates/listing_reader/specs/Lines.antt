-- A line of a sheet, read at the front of some bytes (SCOPE 20.6): a value is read from it, and the line is in form exactly when it is the
-- spelling of that value. So each value has one spelling, and no other comes through.
use Rattle.std.specs.Prelude.{Bool, List, [], ◌∷◌, ℕ, zero, suc, ◌+◌, ◌*◌, ◌-◌, ◌%◌, eqb, ltb, leb, length, get_or, drop}
use Rattle.laws.specs.Pick.{pick, both}
use Rattle.texts.specs.Texts.{begins_with}
use Rattle.forms.specs.Tables.{TI, LI}
use Rattle.forms.specs.Form.{word_at}
use Rattle.text_lines.specs.Lines.{number_line, language_name, language_line, page_name, page_line}
use Rattle.listing.specs.Lines.{kind_ti, kind_line}
use Rattle.listing_reader.specs.declared.lines.Line.{Line}

-- the value that was read, and how long the line is; a line that isn't in form has length 0
abbrev pub line_of : Bool → ℕ → List ℕ → Line
line_of in_form n text = record { value = n; long = pick in_form (length text) 0 }

-- ---- numbers

-- one of 0..9
abbrev pub is_digit : ℕ → Bool
is_digit b = both (leb 48 b) (leb b 57)

-- the number of the digits at the front, of k at most, behind those of a
unfoldable pub number_from : ℕ → ℕ → List ℕ → ℕ
number_from zero a bytes = a
number_from (suc k) a [] = a
number_from (suc k) a (b ∷ bytes) = pick (is_digit b) (number_from k (a * 10 + (b - 48)) bytes) a

-- the most digits that a number in form has: a stamp's
abbrev pub digits_most : ℕ
digits_most = 10

-- a name and a number up to `most`
unfoldable pub number_at : List ℕ → ℕ → List ℕ → Line
number_at name most bytes =
    let n = number_from digits_most 0 (drop (length name) bytes) in
    line_of (both (leb n most) (begins_with (number_line name n) bytes)) n (number_line name n)

-- `kind=TI`, `kind=LI`
unfoldable pub kind_at : List ℕ → Line
kind_at bytes = let kind = pick (begins_with kind_ti bytes) TI LI in line_of (begins_with (kind_line kind) bytes) kind (kind_line kind)

-- ---- words of 24 bits

-- a hex digit's value
unfoldable pub nibble_of : ℕ → ℕ
nibble_of b = pick (ltb b 58) (b - 48) (b - 87)

-- the byte of the two hex digits at a place
abbrev pub hex_byte : List ℕ → ℕ → ℕ
hex_byte bytes i = nibble_of (get_or bytes i 0) * 16 + nibble_of (get_or bytes (i + 1) 0)

-- the word of the six hex digits at a place
unfoldable pub hex_word : List ℕ → ℕ → ℕ
hex_word bytes i = ((hex_byte bytes i * 256 + hex_byte bytes (i + 2)) * 256 + hex_byte bytes (i + 4)) % 16777216

-- a language: three letters where the line ends behind them, otherwise six hex digits
unfoldable pub language_in : List ℕ → ℕ → ℕ
language_in bytes i = pick (eqb (get_or bytes (i + 3) 0) 10) (word_at bytes i) (hex_word bytes i)

unfoldable pub language_at : List ℕ → Line
language_at bytes =
    let w = language_in bytes (length language_name) in line_of (begins_with (language_line w) bytes) w (language_line w)

unfoldable pub page_at : List ℕ → Line
page_at bytes = let w = hex_word bytes (length page_name) in line_of (begins_with (page_line w) bytes) w (page_line w)
