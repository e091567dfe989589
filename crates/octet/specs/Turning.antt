-- The turning: bytes of a PES packet have their bits in the order of sending, so that 27 reads E4 there (SCOPE 6.6).
use Rattle.std.specs.Prelude.{reverse, ℕ}
use Rattle.octet.specs.Bits.{bits, number}

-- bit i goes to bit 7 - i
unfoldable pub turned : ℕ → ℕ
turned b = number (reverse (bits 8 b))
