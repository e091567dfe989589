-- The frame: the first rules of block reading and of menu reading, which look at nothing but the record's length and head (SCOPE 3.6, 19.4, 23.6).
use Rattle.std.specs.Prelude.{List, [], ◌∷◌, ℕ, ◌+◌, eqb, ltb, leb, length}
use Rattle.answer.specs.Rules.{Rule, rule}
use Rattle.blocks.specs.Block.{head_length, head_of, part_of, second_of, application_of, size_of}
use Rattle.blocks.specs.Parts.{ranged}

-- 16, 13 for the record's length, 16 for its two bytes, 12 for the application, 13 for a size under 8: the record as it is lent, by its
-- length, its head and those two bytes
unfoldable pub frame_rules : ℕ → ℕ → ℕ → ℕ → ℕ → List Rule
frame_rules application len head part second =
    rule (ltb application 32) 16 0
    ∷ rule (eqb len (head_length + size_of head)) 13 0
    ∷ rule (ranged part second) 16 0
    ∷ rule (eqb (application_of head) application) 12 0
    ∷ rule (leb 8 (size_of head)) 13 0
    ∷ []

-- the frame of a record
abbrev pub framing : ℕ → List ℕ → List Rule
framing application r = frame_rules application (length r) (head_of r) (part_of r) (second_of r)
