-- The image of a nibble, by the parity formula.
use Rattle.std.specs.Prelude.{[], ◌∷◌, ℕ, ◌+◌, ◌/◌, ◌%◌}
use Rattle.octet.specs.Bits.{number}

-- the byte of four data bits: from its lowest bit up P1 D1 P2 D2 P3 D3 P4 D4, each of P1 to P3 one more than the sum of three data bits,
-- modulo 2, and P4 such that the ones of the byte are odd in number (SCOPE 5.1)
unfoldable pub with_parity : ℕ → ℕ → ℕ → ℕ → ℕ
with_parity d1 d2 d3 d4 =
    let p1 = (1 + d1 + d3 + d4) % 2 in
    let p2 = (1 + d1 + d2 + d4) % 2 in
    let p3 = (1 + d1 + d2 + d3) % 2 in
    let p4 = (1 + p1 + d1 + p2 + d2 + p3 + d3 + d4) % 2 in
    number (p1 ∷ d1 ∷ p2 ∷ d2 ∷ p3 ∷ d3 ∷ p4 ∷ d4 ∷ [])

-- the image of n's four lowest bits, D1 the lowest: n modulo 16 where n is above 15
unfoldable pub image : ℕ → ℕ
image n = with_parity (n % 2) (n / 2 % 2) (n / 2 / 2 % 2) (n / 2 / 2 / 2 % 2)
