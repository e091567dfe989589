-- The header of a PES packet, 45 bytes of which the optional fields aren't looked at (SCOPE 6.1), and the data_identifier (SCOPE 6.3):
-- EN 300 472, 4.2 and 4.4.
use Rattle.std.specs.Prelude.{Bool, List, [], ◌∷◌, ℕ, ◌+◌, ◌-◌, ◌*◌, ◌/◌, ◌%◌, eqb, leb, length}
use Rattle.laws.specs.Pick.{both}
use Rattle.answer.specs.Rules.{Rule, rule}
use Rattle.pes.specs.Texts.{ebu_data}
use Rattle.units.specs.Units.{byte_at}

-- its first four bytes are 00 00 01 BD: packet_start_code_prefix, and the stream_id of private stream 1
abbrev pub starts_right : List ℕ → Bool
starts_right pes =
    both (eqb (byte_at pes 0) 0x00)
    (both (eqb (byte_at pes 1) 0x00) (both (eqb (byte_at pes 2) 0x01) (eqb (byte_at pes 3) 0xBD)))

-- PES_packet_length
abbrev pub pes_length : List ℕ → ℕ
pes_length pes = byte_at pes 4 * 256 + byte_at pes 5

-- PES_packet_length of a packet of N times 184 bytes: the six up to its own end aren't counted
abbrev pub length_of : ℕ → ℕ
length_of n = n * 184 - 6

-- it is that of some N, 1 to 356 (SCOPE 2.1, number 3)
abbrev pub length_fits : ℕ → Bool
length_fits l =
    let n = (l + 6) / 184 in
    both (leb 1 n) (both (leb n 356) (eqb l (length_of n)))

-- byte 6: its two highest bits are 1 and 0, and data_alignment_indicator is set
abbrev pub flags_fit : ℕ → Bool
flags_fit b = both (eqb (b / 64) 2) (eqb (b / 4 % 2) 1)

-- 2 to 5, in order, with their offsets (SCOPE 3.1, 3.4)
unfoldable pub header_rules : List ℕ → List Rule
header_rules pes =
    rule (both (leb 45 (length pes)) (starts_right pes)) 2 0
    ∷ rule (both (length_fits (pes_length pes)) (eqb (pes_length pes + 6) (length pes))) 3 4
    ∷ rule (flags_fit (byte_at pes 6)) 4 6
    ∷ rule (eqb (byte_at pes 8) 0x24) 4 8
    ∷ rule (ebu_data (byte_at pes 45)) 5 45
    ∷ []
