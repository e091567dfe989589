-- What only private calls cite; nothing here needs to be believed.
use Rattle.std.specs.Prelude.{◌≡◌, List, ℕ, ◌≤◌, length, drop, All}
use Rattle.vectors.specs.Lent.{filler}

-- n bytes were written to the front of the lent output, and no other byte of it
pub record KeptFrom (out : List ℕ) (n : ℕ) : Type 0 where
  pub inside : n ≤ length out
  pub untouched : All (λ b. b ≡ filler) (drop n out)
