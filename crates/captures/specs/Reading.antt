-- What a read gives.
use Rattle.std.specs.Prelude.{Bool, true, ℕ, leb}
use Rattle.captures.specs.declared.reading.Got.{Got}
use Rattle.captures.specs.declared.reading.Got.TheVariants.{Bytes, Failed}

-- what was read stands in so many bytes
abbrev pub fits_in : Got → ℕ → Bool
fits_in (Bytes n) long = leb n long
fits_in Failed long = true
