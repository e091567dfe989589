-- A table's block as it is sent, and what a record says of one.
use Rattle.std.specs.Prelude.{List, ℕ}
use Rattle.blocks.specs.Block.{Block}
use Rattle.kinds.specs.Block.{Means, nibbles as kind_nibbles, checksum_of as kind_checksum_of, block_with as kind_block_with, record_with as kind_record_with}
use Rattle.forms.specs.Tables.{Table, tables, content, table_sent}

-- the nibbles of a table's block, for any checksum, reserved bit and fill
abbrev pub nibbles : ℕ → ℕ → ℕ → Table → List ℕ
nibbles sum reserved filling t = kind_nibbles tables sum filling (content reserved t)

-- the checksum of a table's block
abbrev pub checksum_of : ℕ → ℕ → ℕ → Table → ℕ
checksum_of application reserved filling t = kind_checksum_of tables application filling (content reserved t)

-- a table's block, none of whose bytes is mended, with any reserved bit and fill
abbrev pub block_with : ℕ → ℕ → ℕ → Table → Block
block_with application reserved filling t = kind_block_with tables application filling (content reserved t)

-- the record that carries it
abbrev pub record_with : ℕ → ℕ → ℕ → Table → List ℕ
record_with application reserved filling t = kind_record_with tables application filling (content reserved t)

-- the record that is written: with fill and reserved bits of 0 (SCOPE 12.10)
abbrev pub record_of : ℕ → Table → List ℕ
record_of application t = record_with application 0 0 t

-- record r is exactly table t of this application, in clear: with any reserved bit and any fill
abbrev pub Says : ℕ → List ℕ → Table → Type 0
Says application r t = Means tables table_sent application r t
