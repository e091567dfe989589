-- The rules of block reading that come last but for the room: 22 for the block number, 14 for the lengths (SCOPE 3.6, 22.3).
use Rattle.std.specs.Prelude.{List, ℕ}
use Rattle.answer.specs.Rules.{Rule}
use Rattle.kinds.specs.Kind.{Sent}
use Rattle.kinds.specs.Reading.{length_rules as kind_length_rules}
use Rattle.forms.specs.Tables.{Body, tables}

-- 22: by the block's size, whatever its control size is. 14: loops, control size and fill fit where both sizes are those of the table that
-- the block carries
abbrev pub length_rules : ℕ → Sent Body → List Rule
length_rules block_size s = kind_length_rules tables block_size s
