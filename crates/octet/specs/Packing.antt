-- Entries of a table as one number.
use Rattle.std.specs.Prelude.{ℕ, zero, suc, ◌+◌, ◌*◌}

-- the values of g at the n numbers from i on, a byte each, the first lowest
unfoldable pub packed : (ℕ → ℕ) → ℕ → ℕ → ℕ
packed g i zero = 0
packed g i (suc n) = g i + 256 * packed g (suc i) n
