-- A file's name as it is told (SCOPE 13.8).
use Rattle.std.specs.Prelude.{ℕ, eqb, ltb}
use Rattle.laws.specs.Pick.{pick, either}

-- `?` for a byte below 20 hex and for 7F, which are no characters; any other byte is itself
unfoldable pub printed : ℕ → ℕ
printed b = pick (either (ltb b 0x20) (eqb b 0x7F)) 63 b
