-- The writer: records to packets, in pages of k packets.
use Rattle.std.specs.Prelude.{◌≡◌, Bool, List, [], ◌∷◌, ◌++◌, map, ℕ, zero, suc, ◌+◌, ◌-◌, ◌*◌, ◌/◌, ◌%◌, leb, length, drop}
use Rattle.laws.specs.Pick.{both}
use Rattle.answer.specs.Rules.{Rule, rule}
use Rattle.blocks.specs.Block.{whole, blocks}
use Rattle.packet.specs.declared.Setting.{Setting}
use Rattle.packet.specs.Setting.{in_range}
use Rattle.packet.specs.Packet.{packet_length, packet_zero, packet_of}
use Rattle.symbols.specs.Stream.{Symbol, byte_of, per_packet, stream_of, grab, pointer_of}

-- packet y with the next symbols
abbrev pub data_packet : Setting → ℕ → List Symbol → List ℕ
data_packet s y ss = packet_of s y (pointer_of (grab per_packet ss)) (map byte_of (grab per_packet ss))

-- the w packets from y on of a page
unfoldable pub data_packets : Setting → ℕ → ℕ → List Symbol → List (List ℕ)
data_packets s zero y ss = []
data_packets s (suc w) y ss = data_packet s y ss ∷ data_packets s w (suc y) (drop per_packet ss)

-- what is left of the stream after w packets
abbrev pub after_packets : ℕ → List Symbol → List Symbol
after_packets w ss = drop (w * per_packet) ss

-- so many pages of k packets: a packet 0 with n = k and the index, the k packets, and the next page with the next index
unfoldable pub pages : Setting → ℕ → ℕ → ℕ → List Symbol → List (List ℕ)
pages s k zero index ss = []
pages s k (suc p) index ss = packet_zero s index k ∷ (data_packets s k 1 ss ++ pages s k p ((index + 1) % 16) (after_packets k ss))

-- how many packets, besides packets 0, so many symbols need
abbrev pub rows_for : ℕ → ℕ
rows_for n = (n + (per_packet - 1)) / per_packet

-- how many pages of k packets they need: the last page is filled up (SCOPE 11.2)
abbrev pub pages_for : ℕ → ℕ → ℕ
pages_for k n = (rows_for n + (k - 1)) / k

-- the packets of a list of records, the first index given (SCOPE 11.4); of an empty list there are none (SCOPE 11.3)
unfoldable pub packets : Setting → ℕ → ℕ → List ℕ → List (List ℕ)
packets s index k records =
    let ss = stream_of (blocks records) in
    pages s k (pages_for k (length ss)) index ss

-- packets one after the other
unfoldable pub joined : List (List ℕ) → List ℕ
joined [] = []
joined (p ∷ ps) = p ++ joined ps

-- a list of packets, each of 42 bytes (SCOPE 1.4)
pub data FortyTwo : List (List ℕ) → Type 0 where
  none : FortyTwo []
  more : {p : List ℕ} {ps : List (List ℕ)} → length p ≡ packet_length → FortyTwo ps → FortyTwo (p ∷ ps)

abbrev pub cut_bytes : Setting → ℕ → ℕ → List ℕ → List ℕ
cut_bytes s index k records = joined (packets s index k records)

-- how many packets a page has where no number is given (SCOPE 7.6)
abbrev pub usual_page : ℕ
usual_page = 20

-- whether the setting, the first index and the page's length are in range (SCOPE 7.6, 8.1)
abbrev pub takes_of : Setting → ℕ → ℕ → Bool
takes_of s index k = both (in_range s) (both (leb index 15) (both (leb 1 k) (leb k 25)))

-- the writer's refusals, in order (SCOPE 3.7): 16 for what it is set to, 13 for a list that isn't whole records
abbrev pub cut_rules : Setting → ℕ → ℕ → List ℕ → List Rule
cut_rules s index k records = rule (takes_of s index k) 16 0 ∷ rule (whole records) 13 0 ∷ []
