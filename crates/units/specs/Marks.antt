-- What an id and a line byte say: EN 300 472, tables 4 and 5.
use Rattle.std.specs.Prelude.{Bool, ℕ, ◌%◌, eqb, leb}
use Rattle.laws.specs.Pick.{both, either}

-- table 4: the id of a text unit, subtitles or not (SCOPE 6.5)
abbrev pub text_id : ℕ → Bool
text_id i = either (eqb i 0x02) (eqb i 0x03)

-- the line byte: its five lowest bits, the line offset, are 0 or from 0x07 to 0x16 (table 5; SCOPE 6.5, 2.1)
abbrev pub line_fits : ℕ → Bool
line_fits b = either (eqb (b % 32) 0x00) (both (leb 0x07 (b % 32)) (leb (b % 32) 0x16))
