-- How a line ends, where the text has room for one.
use Rattle.std.specs.Prelude.{◌≡◌, List, ℕ, ◌-◌, ◌<◌, length, get_or}

-- the first n bytes of a text are some, and the last of them is the line feed; in an empty text nothing can be asked
abbrev pub EndsLine : ℕ → List ℕ → Type 0
EndsLine n text = 0 < length text → (0 < n) × (get_or text (n - 1) 0 ≡ 10)
