-- A data unit: its id, its length and so many bytes (SCOPE 6.4); and those of a text unit (SCOPE 6.5): EN 300 472, tables 1, 2, 4 and 5.
use Rattle.std.specs.Prelude.{Bool, List, [], ◌∷◌, ◌++◌, ℕ, ◌+◌, eqb, leb, ltb, length, get_or}
use Rattle.std.specs.declared.result.Result.{Result}
use Rattle.std.specs.declared.result.Result.TheVariants.{Ok, Err}
use Rattle.laws.specs.Pick.{pick, either}
use Rattle.answer.specs.declared.Refusal.{Refusal}
use Rattle.answer.specs.Rules.{Rule, rule, judged}
use Rattle.answer.specs.Values.{refusal}
pub use Rattle.units.specs.Marks.{text_id, line_fits}
use Rattle.units.specs.declared.DataUnit.{DataUnit}

-- the packet's byte at a place
abbrev pub byte_at : List ℕ → ℕ → ℕ
byte_at pes at = get_or pes at 0

-- table 4: the id of stuffing (SCOPE 6.7)
abbrev pub stuffing_id : ℕ → Bool
stuffing_id i = eqb i 0xFF

-- the bytes after the length of a text unit: the line byte, the framing byte, 42 bytes
abbrev pub text_length : ℕ
text_length = 0x2C

-- the framing byte as it stands: 27 turned (SCOPE 6.6)
abbrev pub framing : ℕ
framing = 0xE4

-- the place after the unit at a place
abbrev pub next_unit : List ℕ → ℕ → ℕ
next_unit pes at = at + 2 + byte_at pes (at + 1)

-- the unit at a place: 6 where one byte is left, 7 for its id, 6 where it runs over the end (SCOPE 3.4)
unfoldable pub unit_rules : List ℕ → ℕ → List Rule
unit_rules pes at =
    rule (leb (at + 2) (length pes)) 6 at
    ∷ rule (either (text_id (byte_at pes at)) (stuffing_id (byte_at pes at))) 7 at
    ∷ rule (leb (next_unit pes at) (length pes)) 6 at
    ∷ []

-- a text unit: 8 for its length, then 9 for the line byte or, where that is right, for the framing byte (SCOPE 3.1, 3.4)
unfoldable pub text_rules : List ℕ → ℕ → List Rule
text_rules pes at =
    rule (eqb (byte_at pes (at + 1)) text_length) 8 at
    ∷ rule (line_fits (byte_at pes (at + 2))) 9 (at + 2)
    ∷ rule (eqb (byte_at pes (at + 3)) framing) 9 (at + 3)
    ∷ []

-- all rules of the unit at a place, in order
abbrev pub rules_at : List ℕ → ℕ → List Rule
rules_at pes at = unit_rules pes at ++ pick (stuffing_id (byte_at pes at)) [] (text_rules pes at)

abbrev pub bad_unit : ℕ → ℕ → Result DataUnit Refusal
bad_unit n o = Err (refusal n o)

-- what stands at a place: no byte, or the unit that begins there with the place after it, or its refusal
unfoldable pub unit_at : List ℕ → ℕ → Result DataUnit Refusal
unit_at pes at =
    let found = pick (stuffing_id (byte_at pes at)) (DataUnit.Stuffing (next_unit pes at)) (DataUnit.Text (next_unit pes at)) in
    pick (ltb at (length pes)) (judged bad_unit (rules_at pes at) (Ok found)) (Ok DataUnit.End)
