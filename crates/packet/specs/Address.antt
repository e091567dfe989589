-- A packet's address, as it is read (SCOPE 7.1, 8.2, 8.3).
use Rattle.std.specs.Prelude.{Bool, true, not, List, ℕ, zero, suc, ◌+◌, ◌*◌, ◌%◌, eqb, leb, ltb, length, get_or, drop}
use Rattle.laws.specs.Pick.{pick, both}
use Rattle.octet.specs.Decoding.{nib, undecodable}
use Rattle.packet.specs.declared.Setting.{Setting}

-- the first k bytes of l can be decoded
unfoldable pub decodes : ℕ → List ℕ → Bool
decodes zero l = true
decodes (suc k) l = both (ltb (nib (get_or l 0 0)) undecodable) (decodes k (drop 1 l))

-- a packet's address as one number, the magazine modulo 8 lowest and Y above it; over 255 where there is none that can be decoded
unfoldable pub address_of : List ℕ → ℕ
address_of p = pick (both (leb 2 (length p)) (decodes 2 p)) (nib (get_or p 0 0) + 16 * nib (get_or p 1 0)) 256

-- an address that can be decoded and is another magazine's
unfoldable pub elsewhere : Setting → ℕ → Bool
elsewhere s address = both (leb address 255) (not (eqb (address % 8) (s.magazine % 8)))
