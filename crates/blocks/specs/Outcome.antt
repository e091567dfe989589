-- What reading makes of a record, room apart.
use Rattle.std.specs.Prelude.{ℕ}

-- what the block holds, with the count of its mended bytes; or a number and an offset
pub data Outcome (A : Type 0) : Type 0 where
  accepted : A → ℕ → Outcome A
  refused : ℕ → ℕ → Outcome A
