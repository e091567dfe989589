-- Reading a PES packet: its header, then its units one by one.
use Rattle.std.specs.Prelude.{true, false, ℕ, zero, suc, ◌+◌, ltb, length, take, drop}
use mathlib.Core.List.{List, [], ◌∷◌, ◌++◌, map, flat_map}
use Rattle.laws.specs.Pick.{pick}
use Rattle.answer.specs.Rules.{Rule}
use Rattle.octet.specs.Turning.{turned}
pub use Rattle.pes.specs.Texts.{record_size}
use Rattle.pes.specs.Texts.{text_bytes}
use Rattle.units.specs.Units.{byte_at, stuffing_id, next_unit, rules_at}
use Rattle.pes.specs.Header.{header_rules}

-- the record of the text unit at a place: its id, its line byte, and its 42 bytes turned (SCOPE 6.9)
unfoldable pub record_at : List ℕ → ℕ → List ℕ
record_at pes at = byte_at pes at ∷ byte_at pes (at + 2) ∷ map turned (take text_bytes (drop (at + 4) pes))

-- what the unit at a place gives: nothing, where it is stuffing (SCOPE 6.7)
abbrev pub given_at : List ℕ → ℕ → List ℕ
given_at pes at = pick (stuffing_id (byte_at pes at)) [] (record_at pes at)

-- where the first unit stands: after the header and the data_identifier
abbrev pub first_unit : ℕ
first_unit = 46

-- the places of the units from a place on, at most f of them
unfoldable pub places_from : ℕ → List ℕ → ℕ → List ℕ
places_from zero pes at = []
places_from (suc f) pes at = elim (ltb at (length pes)) [ true ↦ at ∷ places_from f pes (next_unit pes at) | false ↦ [] ]

-- the places of all units; a unit has bytes, so there are no more of them than the packet has bytes
unfoldable pub places : List ℕ → List ℕ
places pes = places_from (length pes) pes first_unit

-- the rules of all units, in the order of the units
unfoldable pub units_rules : List ℕ → List Rule
units_rules pes = flat_map (rules_at pes) (places pes)

-- the header's, then the units': the order of SCOPE 3.4
unfoldable pub read_rules : List ℕ → List Rule
read_rules pes = header_rules pes ++ units_rules pes

-- a record for each text unit, in their order (SCOPE 6.9)
unfoldable pub records_of : List ℕ → List ℕ
records_of pes = flat_map (given_at pes) (places pes)
