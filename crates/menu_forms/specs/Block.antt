-- A menu's block as it is sent, and the record that holds it: its head, its control data in protected bytes, its strings.
use Rattle.std.specs.Prelude.{List, ℕ, ◌/◌}
use Rattle.blocks.specs.Block.{Block}
use Rattle.fields.specs.Fields.{Field, width, laid, parts}
use Rattle.kinds.specs.Block.{Means, nibbles as kind_nibbles, head_bits as kind_head_bits, checksum_of as kind_checksum_of, block_with as kind_block_with, record_with as kind_record_with}
use Rattle.menu_forms.specs.Menus.{Menu, Spare, zeros, navigation, content, menu_sent}

-- fields of whole nibbles as these nibbles, the lowest first (A.3; SCOPE 12.1)
unfoldable pub in_nibbles : List Field → List ℕ
in_nibbles fs = parts 4 (width fs / 4) (laid fs 0)

-- the nibbles of a menu's control data, for any checksum and spare bits; nothing fills its last byte
abbrev pub nibbles : ℕ → Spare → Menu → List ℕ
nibbles sum spare m = kind_nibbles navigation sum 0 (content spare m)

-- the 16 bits of its head
abbrev pub head_bits : ℕ → Spare → Menu → ℕ
head_bits application spare m = kind_head_bits navigation application (content spare m)

-- the checksum: over the head and the control data, the strings not counted (11.1.2; SCOPE 23.4)
abbrev pub checksum_of : ℕ → Spare → Menu → ℕ
checksum_of application spare m = kind_checksum_of navigation application 0 (content spare m)

-- a menu's block, none of whose bytes is mended, with any spare bits
abbrev pub block_with : ℕ → Spare → Menu → Block
block_with application spare m = kind_block_with navigation application 0 (content spare m)

-- the record that carries it
abbrev pub record_with : ℕ → Spare → Menu → List ℕ
record_with application spare m = kind_record_with navigation application 0 (content spare m)

-- the record that is written
abbrev pub record_of : ℕ → Menu → List ℕ
record_of application m = record_with application zeros m

-- record r is exactly menu m of this application, in clear: with any spare bits
abbrev pub Says : ℕ → List ℕ → Menu → Type 0
Says application r m = Means navigation menu_sent application r m
