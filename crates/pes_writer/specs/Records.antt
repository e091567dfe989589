-- The rules of a list of records that is to be written, and the length of the packet that holds it (SCOPE 6.10).
use Rattle.std.specs.Prelude.{Bool, true, List, [], ◌∷◌, ℕ, zero, suc, ◌+◌, ◌/◌, ◌%◌, eqb, leb, length}
use Rattle.laws.specs.Pick.{both}
use Rattle.answer.specs.Rules.{Rule, rule}
use Rattle.units.specs.Units.{byte_at, text_id, line_fits}
use Rattle.pes.specs.Texts.{ebu_data, record_size}

-- how many records a list of bytes holds: a unit is written for each
abbrev pub unit_count : List ℕ → ℕ
unit_count rs = length rs / record_size

-- the smallest N that has room for them, 1 for none (SCOPE 6.10): there are 4 × N − 1 units in N × 184 bytes (SCOPE 6.8)
abbrev pub packet_size : ℕ → ℕ
packet_size u = u / 4 + 1

-- the record at a place is one that reading gives: a text unit's id, and a line offset that isn't refused
abbrev pub record_fits : List ℕ → ℕ → Bool
record_fits rs at = both (text_id (byte_at rs at)) (line_fits (byte_at rs (at + 1)))

-- each of the u records from a place on is
unfoldable pub records_fit : ℕ → List ℕ → ℕ → Bool
records_fit zero rs at = true
records_fit (suc u) rs at = both (record_fits rs at) (records_fit u rs (at + record_size))

-- 16, 13, 15, in the order of writers and each at offset 0 (SCOPE 3.7); 1,423 units are what N = 356 holds
unfoldable pub write_rules : ℕ → List ℕ → List Rule
write_rules d rs =
    rule (ebu_data d) 16 0
    ∷ rule (eqb (length rs % record_size) 0) 13 0
    ∷ rule (both (leb (unit_count rs) 1423) (records_fit (unit_count rs) rs 0)) 15 0
    ∷ []
