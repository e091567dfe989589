-- Menu reading: its rules in the order of SCOPE 23.6, and the menu and the count of mended bytes that it gives.
use Rattle.std.specs.Prelude.{true, List, map, ℕ}
use Rattle.answer.specs.Rules.{Rule}
use Rattle.octet.specs.Decoding.{nib}
use Rattle.blocks.specs.Outcome.{Outcome}
use Rattle.kinds.specs.Kind.{Sent}
use Rattle.kinds.specs.Reading.{code_of, mended_of, read_as, control_part as kind_control_part, string_part as kind_string_part, length_rules as kind_length_rules, read_rules as kind_read_rules}
use Rattle.menu_forms.specs.Menus.{Menu, Body, navigation, menu_sent}
use Rattle.menu_reader.specs.Control.{sent_of, menu_of}

-- what control bytes and string bytes carry, and the menu among it
abbrev pub sent_held : List ℕ → List ℕ → Sent Body
sent_held control strings = sent_of (map nib control) (map code_of strings)

abbrev pub menu_held : List ℕ → List ℕ → Menu
menu_held control strings = menu_of (map nib control) (map code_of strings)

-- the control bytes and the string bytes of a block (SCOPE 23.4)
abbrev pub control_part : List ℕ → List ℕ
control_part raw = kind_control_part true raw

abbrev pub string_part : List ℕ → List ℕ
string_part raw = kind_string_part true raw

-- 14: header_size is 0, 1 or 2, and both sizes are those of the menu that is read
abbrev pub length_rules : ℕ → Sent Body → List Rule
length_rules block_size s = kind_length_rules navigation block_size s

abbrev pub read_rules : ℕ → List ℕ → List Rule
read_rules application r = kind_read_rules navigation application r

-- the menu that raw bytes hold
abbrev pub menu_read : List ℕ → Menu
menu_read raw = menu_held (control_part raw) (string_part raw)

-- the count of mended bytes: the part, and the control bytes that aren't images; string bytes don't count (SCOPE 23.6)
abbrev pub mended_control : List ℕ → ℕ
mended_control r = mended_of true r

-- what reading makes of a record, room apart
abbrev pub read_menu : ℕ → List ℕ → Outcome Menu
read_menu application r = read_as navigation menu_sent application r
