-- Which of two packets was heard better, and the part of it that is handed back (SCOPE 18).
use Rattle.std.specs.Prelude.{Bool, List, [], ◌∷◌, ℕ, zero, suc, ◌+◌, eqb, ltb, length, drop}
use Rattle.laws.specs.Pick.{pick, both}
use Rattle.octet.specs.Decoding.{nib, undecodable}
use Rattle.packet.specs.Packet.{packet_length}

-- how many bytes at the front of a packet are looked at
abbrev pub judged_bytes : ℕ
judged_bytes = 10

-- how many bytes its address has
abbrev pub address_length : ℕ
address_length = 2

-- how many of the first k bytes can't be decoded; one that is mended doesn't count
unfoldable pub broken_in : ℕ → List ℕ → ℕ
broken_in zero l = 0
broken_in (suc k) [] = 0
broken_in (suc k) (b ∷ bs) = pick (eqb (nib b) undecodable) 1 0 + broken_in k bs

-- both are packets
abbrev pub both_packets : List ℕ → List ℕ → Bool
both_packets first second = both (eqb (length first) packet_length) (eqb (length second) packet_length)

-- the second is chosen: fewer of its first ten bytes can't be decoded
abbrev pub second_chosen : List ℕ → List ℕ → Bool
second_chosen first second = ltb (broken_in judged_bytes second) (broken_in judged_bytes first)

-- what is handed back: all of the chosen packet but its address; nothing where one of the two isn't a packet
unfoldable pub better_of : List ℕ → List ℕ → List ℕ
better_of first second =
    pick (both_packets first second) (drop address_length (pick (second_chosen first second) second first)) []

-- the place so many bytes behind one; a place is a block of memory and an offset in it
abbrev pub behind : ℕ × ℕ → ℕ → ℕ × ℕ
behind place k = (place.0, k + place.1)

-- where that part begins, of two packets and the places where they begin: behind the chosen packet's address; where one of the two isn't
-- a packet, where the first begins
unfoldable pub better_at : List ℕ → List ℕ → ℕ × ℕ → ℕ × ℕ → ℕ × ℕ
better_at first second one two =
    pick (both_packets first second) (behind (pick (second_chosen first second) two one) address_length) one
