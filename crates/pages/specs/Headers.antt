-- What a packet is to a reader of a setting, and packet 0 by its bytes.
use Rattle.std.specs.Prelude.{List, ℕ, ◌+◌, ◌*◌, ◌%◌, eqb, length, get_or}
use Rattle.laws.specs.Pick.{pick, both}
use Rattle.octet.specs.Decoding.{nib}
use Rattle.packet.specs.declared.Setting.{Setting}
use Rattle.packet.specs.Packet.{packet_length}
use Rattle.packet.specs.Address.{decodes}

pub data Seen : Type 0 where
  -- an address (SCOPE 8.2), or one of the six bytes of our magazine's packet 0 (SCOPE 8.6), that can't be decoded
  junk : Seen
  -- another magazine (SCOPE 8.3), or Y 26 to 31 (SCOPE 8.4)
  other : Seen
  -- packet 0 of another page or stream of our magazine
  foreign : Seen
  -- packet 0 of our page and stream: its index and its count n
  ours : ℕ → ℕ → Seen
  -- packet Y of our magazine, 1..25: Y, its pointer (16: can't be decoded) and the 39 bytes after it
  packet_y : ℕ → ℕ → List ℕ → Seen

-- packet 0, from the byte after its address on: page units, page tens, S1, S2, S3, S4 (SCOPE 7.3, 7.4)
unfoldable pub see_zero : Setting → List ℕ → Seen
see_zero s l =
    pick (decodes 6 l)
    (pick (both (eqb (nib (get_or l 0 0) + 16 * nib (get_or l 1 0)) s.page) (eqb (nib (get_or l 4 0)) s.stream))
    (ours (nib (get_or l 2 0)) (nib (get_or l 3 0) % 8 + 8 * (nib (get_or l 5 0) % 4)))
    foreign)
    junk

-- a packet that isn't 42 bytes long counts as one that can't be read
abbrev pub in_full : List ℕ → Seen → Seen
in_full p x = pick (eqb (length p) packet_length) x junk
