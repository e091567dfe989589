-- What the two calls write, and their rules in order (SCOPE 29.5 to 29.7).
use Rattle.std.specs.Prelude.{◌≡◌, List, [], ◌∷◌, ◌++◌, ℕ, ◌+◌, ◌-◌, ◌*◌, ◌%◌, eqb, leb, length, get_or, take, drop}
use Rattle.answer.specs.Rules.{Rule, rule}
use Rattle.forms.specs.Tables.{Table, TI}
use Rattle.forms.specs.Form.{table_in}
use Rattle.forms.specs.Writing.{form_rules}
use Rattle.dvb_descriptor.specs.declared.Subtitle.{Subtitle}
use Rattle.dvb_descriptor.specs.Subtitles.{subtitles_of}
use Rattle.dvb_descriptor.specs.Entries.{tag, subtitle_type, fives, kept_in, count_in}

-- a descriptor: its tag, the length of what follows, an entry for each subtitle (SCOPE 29.1)
unfoldable pub packed : List Subtitle → List ℕ
packed ss = tag ∷ 5 * length ss ∷ fives subtitle_type ss

abbrev pub descriptor_of : Table → List ℕ
descriptor_of t = packed (subtitles_of t)

-- as many entries of five bytes as a length of one byte can count
abbrev pub most : ℕ
most = 51

-- 22 and 13 of a form as block writing has them (SCOPE 29.5); 15 for a kind other than TI as soon as the opening is there; 13 and 15 as block
-- writing has them; 26 for more than 51 subtitles
unfoldable pub write_rules : List ℕ → List Rule
write_rules f =
    take 2 (form_rules f)
    ++ rule (eqb (get_or f 0 0) TI) 15 0
    ∷ drop 2 (form_rules f)
    ++ rule (leb (length (subtitles_of (table_in f))) most) 26 0
    ∷ []

-- 27 for another tag; for a length that isn't five times a count; for one that isn't that of the bytes after it, so for fewer than two bytes
-- too (SCOPE 29.6)
unfoldable pub read_rules : List ℕ → List Rule
read_rules b =
    rule (eqb (get_or b 0 0) tag) 27 0
    ∷ rule (eqb (get_or b 1 0 % 5) 0) 27 0
    ∷ rule (eqb (length b) (2 + get_or b 1 0)) 27 0
    ∷ []

-- the bytes that these let pass: the tag, five times a count, and as many bytes
abbrev pub Descriptive : List ℕ → Type 0
Descriptive b = (n : ℕ) × (rest : List ℕ) × (b ≡ tag ∷ 5 * n ∷ rest) × (length rest ≡ 5 * n)

-- what is handed out: the number of subtitles, the number of entries passed over, then the subtitles, each with its magazine alone in the
-- fourth byte (SCOPE 29.7)
unfoldable pub handed : ℕ → List Subtitle → List ℕ
handed passed ss = length ss ∷ passed ∷ fives 0 ss

unfoldable pub read_of : List ℕ → List ℕ
read_of b = handed (count_in b - length (kept_in (count_in b) (drop 2 b))) (kept_in (count_in b) (drop 2 b))
