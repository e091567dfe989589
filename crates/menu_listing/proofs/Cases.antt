-- The example of SCOPE 23.8, a menu that leads to itself, from a list and from a shelf, and one that isn't there, computed from the definitions. The records are what the
-- independent model of the tests writes. Assumes nothing.
use mathlib.Core.Path.{◌≡◌, refl}
use mathlib.Core.List.{List, [], ◌∷◌, ◌++◌}
use Prim.Native.Nat.{ℕ}
use lib.ListN.{drop}
use Rattle.octet.specs.Bits.{bits, number, differing}
use Rattle.octet.specs.Image.{image, with_parity}
use Rattle.octet.specs.Decoding.{nib, nibble_from}
use Rattle.blocks.specs.Block.{blocks_within}
use Rattle.fields.specs.Fields.{width, field, whole, laid, parts}
use Rattle.parity.specs.Parity.{ones, is_odd, letter, odds}
use Rattle.blocks.specs.Sums.{total, checksum, sound}
use Rattle.blocks.specs.Framing.{frame_rules}
use Rattle.menu_forms.specs.Rows.{in_row}
use Rattle.menu_forms.specs.Menus.{info_bytes, fields, strings, event_format, fill_up, text_format}
use Rattle.menu_forms.specs.Form.{codes_in, text_in, event_in, menu_in, text_form, event_form}
use Rattle.shelf.specs.Shelf.{three, number_in, way_back, place_of}
use Rattle.menu_forms.specs.Block.{in_nibbles}
use Rattle.kinds.specs.Reading.{front_in, sent_in, front_rules, whole_rules, length_rules}
use Rattle.text_lines.specs.Lines.{digits_in, number_line}
use Rattle.menu_listing.specs.Lines.{shown, text_line, link_line, event_lines, events_lines, menu_lines}
use Rattle.menu_listing.specs.Listing.{is_menu, menus_of, lines_of, listing}
use Rattle.menu_listing.specs.Kept.{form_at, kept_menus, kept_listing}

-- `missing=9`
abbrev missing : List ℕ
missing = 109 ∷ 105 ∷ 115 ∷ 115 ∷ 105 ∷ 110 ∷ 103 ∷ 61 ∷ 57 ∷ 10 ∷ []

-- menu 0: `TV Guide`, with `Themes`, which leads to menu 5, and `More`, which leads to menu 9
abbrev guide : List ℕ
guide =
    0x81 ∷ 0x07 ∷ 0x00 ∷ 0x00 ∷ 0x64 ∷ 0x9B ∷ 0x73 ∷ 0x02 ∷ 0xA1 ∷ 0x15 ∷ 0x15 ∷ 0x15 ∷ 0x15 ∷ 0x15 ∷ 0x15 ∷ 0xD0 ∷ 0x15 ∷ 0x15 ∷ 0x15 ∷ 0x15
    ∷ 0x15 ∷ 0x15 ∷ 0xD0 ∷ 0x15 ∷ 0x15 ∷ 0x15 ∷ 0x73 ∷ 0x15 ∷ 0x15 ∷ 0x15 ∷ 0x02 ∷ 0x15 ∷ 0x15 ∷ 0x15 ∷ 0x38 ∷ 0x15 ∷ 0xC7 ∷ 0x15 ∷ 0x15 ∷ 0x15
    ∷ 0x02 ∷ 0x15 ∷ 0x15 ∷ 0x15 ∷ 0x64 ∷ 0x15 ∷ 0x54 ∷ 0xD6 ∷ 0x20 ∷ 0xC7 ∷ 0x75 ∷ 0xE9 ∷ 0x64 ∷ 0xE5 ∷ 0x54 ∷ 0x68 ∷ 0xE5 ∷ 0x6D ∷ 0xE5 ∷ 0x73
    ∷ 0xCD ∷ 0xEF ∷ 0xF2 ∷ 0xE5 ∷ []

-- menu 5: `Themes`, with `Golf`, whose link is of another type
abbrev themes : List ℕ
themes =
    0x41 ∷ 0x05 ∷ 0x00 ∷ 0x00 ∷ 0x64 ∷ 0xB6 ∷ 0x15 ∷ 0x02 ∷ 0xA1 ∷ 0x15 ∷ 0x15 ∷ 0x73 ∷ 0x15 ∷ 0x15 ∷ 0x15 ∷ 0x64 ∷ 0x15 ∷ 0x15 ∷ 0x15 ∷ 0x15
    ∷ 0x15 ∷ 0x15 ∷ 0x38 ∷ 0x15 ∷ 0x15 ∷ 0x15 ∷ 0x15 ∷ 0x15 ∷ 0x15 ∷ 0x15 ∷ 0x49 ∷ 0x15 ∷ 0x15 ∷ 0x15 ∷ 0x64 ∷ 0x15 ∷ 0x54 ∷ 0x68 ∷ 0xE5 ∷ 0x6D
    ∷ 0xE5 ∷ 0x73 ∷ 0xC7 ∷ 0xEF ∷ 0xEC ∷ 0xE6 ∷ []

-- a line each, as SCOPE 23.8 prints them
abbrev text : List ℕ
text =
    108 ∷ 101 ∷ 118 ∷ 101 ∷ 108 ∷ 61 ∷ 49 ∷ 10
    ∷ 109 ∷ 101 ∷ 110 ∷ 117 ∷ 61 ∷ 48 ∷ 10
    ∷ 104 ∷ 101 ∷ 97 ∷ 100 ∷ 101 ∷ 114 ∷ 61 ∷ 84 ∷ 86 ∷ 32 ∷ 71 ∷ 117 ∷ 105 ∷ 100 ∷ 101 ∷ 10
    ∷ 108 ∷ 101 ∷ 118 ∷ 101 ∷ 108 ∷ 61 ∷ 49 ∷ 10
    ∷ 101 ∷ 118 ∷ 101 ∷ 110 ∷ 116 ∷ 61 ∷ 84 ∷ 104 ∷ 101 ∷ 109 ∷ 101 ∷ 115 ∷ 10
    ∷ 108 ∷ 105 ∷ 110 ∷ 107 ∷ 61 ∷ 49 ∷ 44 ∷ 53 ∷ 10
    ∷ 108 ∷ 101 ∷ 118 ∷ 101 ∷ 108 ∷ 61 ∷ 50 ∷ 10
    ∷ 109 ∷ 101 ∷ 110 ∷ 117 ∷ 61 ∷ 53 ∷ 10
    ∷ 104 ∷ 101 ∷ 97 ∷ 100 ∷ 101 ∷ 114 ∷ 61 ∷ 84 ∷ 104 ∷ 101 ∷ 109 ∷ 101 ∷ 115 ∷ 10
    ∷ 108 ∷ 101 ∷ 118 ∷ 101 ∷ 108 ∷ 61 ∷ 50 ∷ 10
    ∷ 101 ∷ 118 ∷ 101 ∷ 110 ∷ 116 ∷ 61 ∷ 71 ∷ 111 ∷ 108 ∷ 102 ∷ 10
    ∷ 108 ∷ 105 ∷ 110 ∷ 107 ∷ 61 ∷ 50 ∷ 44 ∷ 48 ∷ 10
    ∷ 108 ∷ 101 ∷ 118 ∷ 101 ∷ 108 ∷ 61 ∷ 49 ∷ 10
    ∷ 101 ∷ 118 ∷ 101 ∷ 110 ∷ 116 ∷ 61 ∷ 77 ∷ 111 ∷ 114 ∷ 101 ∷ 10
    ∷ 108 ∷ 105 ∷ 110 ∷ 107 ∷ 61 ∷ 49 ∷ 44 ∷ 57 ∷ 10
    ∷ 109 ∷ 105 ∷ 115 ∷ 115 ∷ 105 ∷ 110 ∷ 103 ∷ 61 ∷ 57 ∷ 10 ∷ []

-- menu 3, whose one event leads to itself
abbrev round : List ℕ
round =
    0x41 ∷ 0x04 ∷ 0x00 ∷ 0x00 ∷ 0xB6 ∷ 0xB6 ∷ 0x15 ∷ 0x02 ∷ 0xA1 ∷ 0x15 ∷ 0x15 ∷ 0x5E ∷ 0x15 ∷ 0x15 ∷ 0x15 ∷ 0x64 ∷ 0x15 ∷ 0x15 ∷ 0x15 ∷ 0x15
    ∷ 0x15 ∷ 0x15 ∷ 0x02 ∷ 0x15 ∷ 0x15 ∷ 0x15 ∷ 0x5E ∷ 0x15 ∷ 0x15 ∷ 0x15 ∷ 0x02 ∷ 0x15 ∷ 0x15 ∷ 0x15 ∷ 0x02 ∷ 0x15 ∷ 0xC1 ∷ 0xC2 ∷ []

-- the last lines that it makes: those of level 8, where the link isn't followed any more
abbrev bottom : List ℕ
bottom =
    108 ∷ 101 ∷ 118 ∷ 101 ∷ 108 ∷ 61 ∷ 56 ∷ 10
    ∷ 109 ∷ 101 ∷ 110 ∷ 117 ∷ 61 ∷ 51 ∷ 10
    ∷ 104 ∷ 101 ∷ 97 ∷ 100 ∷ 101 ∷ 114 ∷ 61 ∷ 65 ∷ 10
    ∷ 108 ∷ 101 ∷ 118 ∷ 101 ∷ 108 ∷ 61 ∷ 56 ∷ 10
    ∷ 101 ∷ 118 ∷ 101 ∷ 110 ∷ 116 ∷ 61 ∷ 66 ∷ 10
    ∷ 108 ∷ 105 ∷ 110 ∷ 107 ∷ 61 ∷ 49 ∷ 44 ∷ 51 ∷ 10
    ∷ 100 ∷ 101 ∷ 101 ∷ 112 ∷ 101 ∷ 114 ∷ 61 ∷ 51 ∷ 10 ∷ []

-- those of level 1 where no more is asked for
abbrev top : List ℕ
top =
    108 ∷ 101 ∷ 118 ∷ 101 ∷ 108 ∷ 61 ∷ 49 ∷ 10
    ∷ 109 ∷ 101 ∷ 110 ∷ 117 ∷ 61 ∷ 51 ∷ 10
    ∷ 104 ∷ 101 ∷ 97 ∷ 100 ∷ 101 ∷ 114 ∷ 61 ∷ 65 ∷ 10
    ∷ 108 ∷ 101 ∷ 118 ∷ 101 ∷ 108 ∷ 61 ∷ 49 ∷ 10
    ∷ 101 ∷ 118 ∷ 101 ∷ 110 ∷ 116 ∷ 61 ∷ 66 ∷ 10
    ∷ 108 ∷ 105 ∷ 110 ∷ 107 ∷ 61 ∷ 49 ∷ 44 ∷ 51 ∷ 10
    ∷ 100 ∷ 101 ∷ 101 ∷ 112 ∷ 101 ∷ 114 ∷ 61 ∷ 51 ∷ 10 ∷ []

-- the same menu on a shelf, with nothing in front of it in its row
abbrev shelved : List ℕ
shelved =
    0 ∷ 0 ∷ 0 ∷ 3 ∷ 0 ∷ 3 ∷ 0 ∷ 0 ∷ 0 ∷ 0 ∷ 0 ∷ 1 ∷ 0 ∷ 1 ∷ 65 ∷ 3 ∷ 0 ∷ 1 ∷ 0 ∷ 0 ∷ 1 ∷ 66 ∷ []

-- heads of which row 3 names it
abbrev named : List ℕ
named = 0 ∷ 0 ∷ 0 ∷ 0 ∷ 0 ∷ 0 ∷ 0 ∷ 0 ∷ 0 ∷ 1 ∷ 0 ∷ 0 ∷ []

pub record Listed : Type 0 where
  pub whole : listing 1 0 8 (guide ++ themes) ≡ text
  pub deepest : drop 343 (listing 1 3 8 round) ≡ bottom
  -- one level asked for
  pub highest : listing 1 3 1 round ≡ top
  pub on_shelf : kept_listing 3 1 named shelved ≡ top
  -- a first menu that isn't there is one line
  pub absent : listing 1 9 8 [] ≡ missing

pub case_listed : Listed
unfolding bits number differing image with_parity nib nibble_from blocks_within width field whole laid parts ones is_odd letter odds total checksum sound frame_rules
    in_row info_bytes text_format event_format fill_up fields strings codes_in in_nibbles front_in sent_in front_rules whole_rules length_rules
    digits_in number_line shown text_line link_line event_lines events_lines menu_lines is_menu menus_of lines_of listing three number_in way_back place_of text_in event_in menu_in form_at kept_menus kept_listing text_form event_form
case_listed = record { whole = refl; deepest = refl; highest = refl; on_shelf = refl; absent = refl }
