-- A list of bytes, which every lent slice is.
use Rattle.std.specs.Prelude.{List, ℕ, ◌<◌, get_or}

-- each value is below 256
abbrev pub Bytes : List ℕ → Type 0
Bytes l = (i : ℕ) → get_or l i 0 < 256
