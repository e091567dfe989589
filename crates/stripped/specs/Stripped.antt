-- What goes out for a PES packet: the 42-byte packets that it carries, or one packet that can't be decoded, where it is refused (SCOPE 6.12).
use mathlib.Core.List.{List, [], ◌++◌, flat_map}
use Rattle.std.specs.Prelude.{ℕ, leb, length, take, drop}
use Rattle.laws.specs.Pick.{pick}
use Rattle.answer.specs.Rules.{judged}
use Rattle.answer.specs.Values.{refusal}
use Rattle.units.specs.Units.{byte_at, stuffing_id}
use Rattle.pes.specs.Reading.{record_at, places, read_rules}
use Rattle.stripped.specs.Loss.{unreadable}
use Rattle.stripped.specs.declared.Stripped.{Stripped as Stripped-as-Stripped}
use Rattle.stripped.specs.declared.Stripped.TheVariants.{Packets, Lost, Refused}

-- the packet of a text unit: its record without the two leading bytes, the unit's id and the line byte
unfoldable pub packet_at : List ℕ → ℕ → List ℕ
packet_at pes at = drop 2 (record_at pes at)

-- the packets that a PES packet carries: one for each text unit in order; stuffing gives nothing
unfoldable pub packets_of : List ℕ → List ℕ
packets_of pes = flat_map (λ (at : ℕ). pick (stuffing_id (byte_at pes at)) [] (packet_at pes at)) (places pes)

-- what goes out for it: they, or the packet that stands for a loss
abbrev pub goes_out : List ℕ → List ℕ
goes_out pes = judged (λ n o. unreadable) (read_rules pes) (packets_of pes)

-- ---- the call

-- what a case of the answer stands for: its number and offset (SCOPE 4.3), and how many bytes were written
pub record Values : Type 0 where
  pub number : ℕ
  pub offset : ℕ
  pub bytes : ℕ

abbrev pub values : ℕ → ℕ → ℕ → Values
values n o b = record { number = n; offset = o; bytes = b }

abbrev pub values_of : Stripped-as-Stripped → Values
values_of (Packets n) = values 0 0 n
values_of (Lost r) = values r.no r.at (length unreadable)
values_of (Refused r) = values r.no r.at 0

-- reading's rules are judged first, and 1 last, by the exact need
unfoldable pub answer_of : List ℕ → List ℕ → Stripped-as-Stripped
answer_of pes packets =
    pick (leb (length (goes_out pes)) (length packets))
    (judged (λ n o. Lost (refusal n o)) (read_rules pes) (Packets (length (packets_of pes))))
    (Refused (refusal 1 0))

-- the bytes that it reports as written are the first of what goes out, and the rest is as before
abbrev pub packets_after : List ℕ → List ℕ → List ℕ
packets_after pes packets =
    let n = (values_of (answer_of pes packets)).bytes in
    take n (goes_out pes) ++ drop n packets
