-- What a byte decodes to: the nibble whose image it is, or is but for one bit; every other byte is refused (SCOPE 5.3).
use Rattle.std.specs.Prelude.{true, false, ℕ, zero, suc, leb}
use Rattle.octet.specs.Bits.{flips}
use Rattle.octet.specs.Image.{image}

-- what stands for a byte that can't be decoded
abbrev pub undecodable : ℕ
undecodable = 16

-- the first of the k nibbles from n on whose image is at most one bit away from b
unfoldable pub nibble_from : ℕ → ℕ → ℕ → ℕ
nibble_from zero n b = undecodable
nibble_from (suc k) n b = elim (leb (flips (image n) b) 1) [ true ↦ n | false ↦ nibble_from k (suc n) b ]

-- the nibble that b decodes to, 0 to 15, or 16 where it can't be decoded
unfoldable pub nib : ℕ → ℕ
nib b = nibble_from 16 0 b
