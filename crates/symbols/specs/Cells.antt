-- Which start of a packet is its first, the one that its pointer names (SCOPE 11.5).
use Rattle.std.specs.Prelude.{Bool, ℕ, min}
use Rattle.laws.specs.Pick.{pick}

-- the place of the first start so far, taking in whether one stands at i
abbrev pub first_of : ℕ → Bool → ℕ → ℕ
first_of before starts i = pick starts (min i before) before
