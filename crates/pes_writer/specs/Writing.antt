-- Writing a PES packet from a list of records (SCOPE 6.10).
use Rattle.std.specs.Prelude.{List, [], ◌∷◌, ◌++◌, map, ℕ, zero, suc, ◌+◌, ◌-◌, ◌*◌, ◌/◌, ◌%◌, take, drop, replicate}
use Rattle.octet.specs.Turning.{turned}
use Rattle.units.specs.Units.{byte_at, text_length, framing}
use Rattle.pes.specs.Texts.{text_bytes, record_size}
use Rattle.pes.specs.Header.{length_of}
pub use Rattle.pes_writer.specs.Records.{unit_count, packet_size, record_fits}
unfoldable pub use Rattle.pes_writer.specs.Records.{records_fit, write_rules}

-- the header, with 84 00 24 at byte 6 and FF from byte 9 up to its end (SCOPE 6.2), and the data_identifier behind it
unfoldable pub header_of : ℕ → ℕ → List ℕ
header_of n d =
    0x00 ∷ 0x00 ∷ 0x01 ∷ 0xBD ∷ length_of n / 256 ∷ length_of n % 256 ∷ 0x84 ∷ 0x00 ∷ 0x24
    ∷ (replicate 36 0xFF ++ d ∷ [])

-- the text unit of the record at a place: the line byte as it is, and from the framing byte on each byte turned (SCOPE 6.6)
unfoldable pub unit_of : List ℕ → ℕ → List ℕ
unit_of rs at = byte_at rs at ∷ text_length ∷ byte_at rs (at + 1) ∷ framing ∷ map turned (take text_bytes (drop (at + 2) rs))

-- the units of the u records from a place on
unfoldable pub units_of : ℕ → List ℕ → ℕ → List ℕ
units_of zero rs at = []
units_of (suc u) rs at = unit_of rs at ++ units_of u rs (at + record_size)

-- a stuffing unit of length 0x2C, each of its bytes FF (SCOPE 6.10)
unfoldable pub stuffing_unit : List ℕ
stuffing_unit = 0xFF ∷ 0x2C ∷ replicate text_length 0xFF

unfoldable pub stuffing_units : ℕ → List ℕ
stuffing_units zero = []
stuffing_units (suc k) = stuffing_unit ++ stuffing_units k

-- the packet: header, units, and stuffing for the rest of the 4 × N − 1 that it holds (SCOPE 6.8, 6.10)
unfoldable pub packet_of : ℕ → List ℕ → List ℕ
packet_of d rs =
    let u = unit_count rs in
    let n = packet_size u in
    header_of n d ++ (units_of u rs 0 ++ stuffing_units (4 * n - 1 - u))
