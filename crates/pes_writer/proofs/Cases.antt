-- Cases J and K of SCOPE 14.1, from the definitions: they join the one list of all cases in crate `claims`. Assumes nothing.
use mathlib.Core.Path.{◌≡◌, refl}
use mathlib.Core.List.{List, [], ◌∷◌, flat_map}
use Prim.Native.Nat.{ℕ}
use lib.ListN.{length, replicate, set}
use Rattle.std.specs.declared.result.Result.TheVariants.{Ok}
use Rattle.answer.specs.Answer.{Answer}
use Rattle.answer.specs.Values.{refused}
use Rattle.answer.specs.Writing.{answered}
use Rattle.octet.specs.Bits.{bits, number}
use Rattle.octet.specs.Turning.{turned}
use Rattle.units.specs.Units.{unit_rules, text_rules}
use Rattle.pes.specs.Header.{header_rules, pes_length}
use Rattle.pes.specs.Reading.{record_at, places_from, places, units_rules, read_rules, records_of}
use Rattle.pes_writer.specs.Writing.{records_fit, write_rules, header_of, unit_of, units_of, stuffing_unit, stuffing_units, packet_of}

-- the answers of the two calls where the output has room
abbrev pub read_answer : List ℕ → Answer
read_answer pes = answered (read_rules pes) (records_of pes) (replicate 1000 0)

abbrev pub write_answer : ℕ → List ℕ → Answer
write_answer d rs = answered (write_rules d rs) (packet_of d rs) (replicate 1000 0)

-- J: the smallest packet, its bytes, its length field and its units
abbrev pub CaseJ : Type 0
CaseJ =
    (write_answer 0x10 [] ≡ Ok 184) × (pes_length (packet_of 0x10 []) ≡ 178) × (length (places (packet_of 0x10 [])) ≡ 3)

pub case_j : CaseJ
unfolding write_rules records_fit packet_of header_of units_of stuffing_unit stuffing_units places places_from
case_j = (refl, refl, refl)

-- a record with the line offset o in the first field, and the packet that would hold it
abbrev lined : ℕ → List ℕ
lined o = 0x02 ∷ o ∷ replicate 42 0x15

abbrev airing : ℕ → List ℕ
airing o = set (packet_of 0x10 (lined 0)) 48 o

-- K: line offset 06 is refused, 07 and 16 are taken, 17 is refused; in reading and in writing
abbrev pub CaseK : Type 0
CaseK =
    (read_answer (airing 0x06) ≡ refused 9 48)
    × (read_answer (airing 0x07) ≡ Ok 44)
    × (read_answer (airing 0x16) ≡ Ok 44)
    × (read_answer (airing 0x17) ≡ refused 9 48)
    × (write_answer 0x10 (lined 0x06) ≡ refused 15 0)
    × (write_answer 0x10 (lined 0x07) ≡ Ok 184)
    × (write_answer 0x10 (lined 0x16) ≡ Ok 184)
    × (write_answer 0x10 (lined 0x17) ≡ refused 15 0)

pub case_k : CaseK
unfolding
    write_rules
    records_fit
    packet_of
    header_of
    unit_of
    units_of
    stuffing_unit
    stuffing_units
    read_rules
    units_rules
    records_of
    flat_map
    header_rules
    unit_rules
    text_rules
    record_at
    places
    places_from
    turned
    bits
    number
case_k = (refl, refl, refl, refl, refl, refl, refl, refl)
