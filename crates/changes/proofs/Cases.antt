-- Cases of SCOPE 28, computed from the definitions: what is printed of two mornings, that it leads from the one to the other, and that what is
-- printed alone doesn't tell which way a table went. Assumes nothing.
use mathlib.Core.Path.{◌≡◌, refl}
use mathlib.Core.List.{List, [], ◌∷◌, ◌++◌, map}
use Prim.Native.Nat.{ℕ}
use Rattle.texts.specs.Texts.{begins_with}
use Rattle.fields.specs.Fields.{whole}
use Rattle.forms.specs.Tables.{Descriptor, TI, LI}
use Rattle.text_lines.specs.Codes.{codes}
use Rattle.text_lines.specs.Lines.{digits_in, digit, hexed, letters, number_line, language_of, language_line, page_line, word_bytes}
use Rattle.listing.specs.Lines.{language_lines, subtitle_lines, entry_lines, descriptor_line, descriptor_lines, descriptor_lines_of}
use Rattle.listing_reader.specs.Lines.{number_from, number_at, nibble_of, hex_word, language_in, language_at, page_at}
use Rattle.listing_reader.specs.Many.{further, many}
use Rattle.listing_reader.specs.Reading.{with_page, with_language, words_of, flat, with_words, with_number, descriptors_of}
use Rattle.sheet_entry.specs.Entries.{Entry, key_of}
use Rattle.sheet_joins.specs.Along.{up_to, along}
use Rattle.changes.specs.Lines.{kind_word, key_name, key_line, change_lines, changes_of, printed}
use Rattle.changes.specs.Calls.{table_of}
use Rattle.changes.specs.Applying.{new_line, new_under, new_table, new_long, comes_before, is_new, next_table, applied_in, applied}

abbrev line : List ℕ → List ℕ
line text = text ++ (10 ∷ [])

abbrev entry : ℕ → ℕ → ℕ → ℕ → List Descriptor → Entry
entry stamp kind network block ds =
    record { stamp = stamp; mended = 0; table = record { kind = kind; copyright = 0; block = block; network = network; descriptors = ds } }

abbrev bare : ℕ → Descriptor
bare n = record { id = n; words = [] }

-- `language=eng`
abbrev english : ℕ
english = 0x656E67

-- an entry that goes, one that changes, one with another stamp, and one that is equal
abbrev evening : List Entry
evening =
    entry 5 LI 1 0 (record { id = 3; words = english ∷ [] } ∷ [])
    ∷ entry 5 TI 1 0 (bare 5 ∷ [])
    ∷ entry 5 LI 2 0 (bare 9 ∷ [])
    ∷ entry 5 TI 2 0 []
    ∷ []

-- and one that comes
abbrev morning : List Entry
morning =
    entry 6 TI 1 0 (record { id = 5; words = english ∷ 0x0188FF ∷ [] } ∷ [])
    ∷ entry 6 LI 2 0 (bare 9 ∷ [])
    ∷ entry 5 TI 2 0 []
    ∷ entry 6 LI 255 32768 (bare 0 ∷ bare 63 ∷ [])
    ∷ []

abbrev print : List ℕ
print =
    line (codes "gone=LI,1,0")
    ++ line (codes "changed=TI,1,0")
    ++ line (codes "descriptor=5")
    ++ line (codes "descriptor=5")
    ++ line (codes "language=eng")
    ++ line (codes "page=0188ff")
    ++ line (codes "new=LI,255,32768")
    ++ line (codes "descriptor=0")
    ++ line (codes "descriptor=63")

overnight : printed evening morning ≡ print
unfolding
    printed changes_of change_lines key_line key_name kind_word along up_to key_of number_line digits_in digit hexed letters language_of language_line page_line word_bytes
    language_lines subtitle_lines entry_lines descriptor_line descriptor_lines descriptor_lines_of begins_with
overnight = refl

applies : applied print (map table_of evening) ≡ map table_of morning
unfolding
    applied applied_in next_table is_new comes_before new_long new_table new_under new_line key_line key_name kind_word number_line digits_in digit hexed letters language_of
    language_line page_line word_bytes language_lines subtitle_lines entry_lines descriptor_line descriptor_lines descriptor_lines_of begins_with number_from number_at
    nibble_of hex_word whole language_in language_at page_at further many with_page with_language words_of flat with_words with_number descriptors_of
applies = refl

-- a table that gains `descriptor=5` and one that loses it print the same
either_way : printed (entry 0 LI 0 0 [] ∷ []) (entry 0 LI 0 0 (bare 5 ∷ []) ∷ []) ≡ printed (entry 0 LI 0 0 (bare 5 ∷ []) ∷ []) (entry 0 LI 0 0 [] ∷ [])
unfolding
    printed changes_of change_lines key_line key_name kind_word along up_to key_of number_line digits_in language_lines entry_lines descriptor_line descriptor_lines
    descriptor_lines_of begins_with
either_way = refl
