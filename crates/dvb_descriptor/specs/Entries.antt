-- How a subtitle is packed, in a descriptor and in what reading hands out, and the entries of a descriptor unpacked (SCOPE 29.1).
use Rattle.std.specs.Prelude.{Bool, true, false, List, [], ◌∷◌, ◌++◌, ℕ, zero, suc, ◌+◌, ◌*◌, ◌/◌, ◌%◌, eqb, get_or, drop}
use Rattle.forms.specs.Form.{spelled, word_at}
use Rattle.dvb_descriptor.specs.declared.Subtitle.{Subtitle}

-- the tag of a teletext descriptor, and the type of a subtitle page (EN 300 468; SCOPE 29.1)
abbrev pub tag : ℕ
tag = 0x56

abbrev pub subtitle_type : ℕ
subtitle_type = 2

-- five bytes: the language, high byte first; the magazine in the lowest three bits of a byte, with a type above it; the page
unfoldable pub five : ℕ → Subtitle → List ℕ
five type s = spelled (s.language ∷ []) ++ (8 * type + s.magazine) ∷ s.page ∷ []

unfoldable pub fives : ℕ → List Subtitle → List ℕ
fives type [] = []
fives type (s ∷ ss) = five type s ++ fives type ss

-- ---- back: what the entry at the front says

abbrev pub type_in : List ℕ → ℕ
type_in b = get_or b 3 0 / 8

abbrev pub subtitle_in : List ℕ → Subtitle
subtitle_in b = record { language = word_at b 0; magazine = get_or b 3 0 % 8; page = get_or b 4 0 }

-- one more where it is a subtitle; an entry of another type is passed over
unfoldable pub kept : Bool → Subtitle → List Subtitle → List Subtitle
kept true s ss = s ∷ ss
kept false s ss = ss

-- the subtitles among the k entries at the front
unfoldable pub kept_in : ℕ → List ℕ → List Subtitle
kept_in zero b = []
kept_in (suc k) b = kept (eqb (type_in b) subtitle_type) (subtitle_in b) (kept_in k (drop 5 b))

-- the number of entries, by a descriptor's length
abbrev pub count_in : List ℕ → ℕ
count_in b = get_or b 1 0 / 5
