-- Block reading: its rules in the order of SCOPE 3.6, with 19.4 and 22.3, and the table and the count of mended bytes that it gives.
use Rattle.std.specs.Prelude.{List, ℕ}
use Rattle.answer.specs.Rules.{Rule}
use Rattle.blocks.specs.Block.{nibbles_of}
use Rattle.fields.specs.Fields.{whole}
use Rattle.kinds.specs.Reading.{read_as, read_rules as kind_read_rules}
use Rattle.forms.specs.Tables.{Table, tables, table_sent}
use Rattle.table.specs.Control.{table_of}
pub use Rattle.blocks.specs.Outcome.{Outcome, accepted, refused}

-- up to the checksum those of any kind without strings, then 22 and 14
abbrev pub read_rules : ℕ → List ℕ → List Rule
read_rules application r = kind_read_rules tables application r

-- the table that reading finds in r
abbrev pub table_read : List ℕ → Table
table_read r = table_of (whole 4 (nibbles_of r))

-- what reading makes of a record, room apart
abbrev pub read_block : ℕ → List ℕ → Outcome Table
read_block application r = read_as tables table_sent application r
