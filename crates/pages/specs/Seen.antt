-- What a packet is to a reader of a setting, by its address (SCOPE 7.1, 8.2 to 8.4).
use Rattle.std.specs.Prelude.{List, ℕ, ◌/◌, ◌%◌, eqb, leb, get_or, drop}
use Rattle.laws.specs.Pick.{pick}
use Rattle.octet.specs.Decoding.{nib}
use Rattle.packet.specs.declared.Setting.{Setting}
use Rattle.packet.specs.Address.{address_of}
use Rattle.pages.specs.Headers.{Seen, junk, other, packet_y, see_zero, in_full}

-- a packet of our magazine, by its number Y
unfoldable pub see_y : Setting → ℕ → List ℕ → Seen
see_y s y p = pick (eqb y 0) (see_zero s (drop 2 p)) (pick (leb y 25) (packet_y y (nib (get_or p 2 0)) (drop 3 p)) other)

-- a packet with this address, which is over 255 where it can't be decoded
unfoldable pub seen_as : Setting → ℕ → List ℕ → Seen
seen_as s address p =
    in_full p (pick (leb address 255) (pick (eqb (address % 8) (s.magazine % 8)) (see_y s (address / 8) p) other) junk)

-- a packet
unfoldable pub see : Setting → List ℕ → Seen
see s p = seen_as s (address_of p) p
