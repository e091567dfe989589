-- What only private calls cite; nothing here needs to be believed.
use Rattle.std.specs.Prelude.{Bool, List, ◌++◌, ℕ}
use Rattle.answer.specs.Rules.{Rule}
use Rattle.blocks.specs.Block.{size_of}
use Rattle.kinds.specs.Reading.{front_rules, whole_rules}

-- the rules behind the frame up to the checksum, by nibbles and string bytes
abbrev pub part_rules : (ℕ → Bool) → Bool → ℕ → List ℕ → List ℕ → List Rule
part_rules asked spoken head ns strings = front_rules asked spoken (size_of head) ns ++ whole_rules head ns strings
