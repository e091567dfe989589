-- The two kinds of table, and the block numbers that they have.
use Rattle.std.specs.Prelude.{Bool, ℕ, eqb}
use Rattle.laws.specs.Pick.{pick, either}

-- the datatype_id of a Subtitle and of a Language table (11.12.3; SCOPE 12.7)
abbrev pub TI : ℕ
TI = 8

abbrev pub LI : ℕ
LI = 7

abbrev pub known : ℕ → Bool
known kind = either (eqb kind TI) (eqb kind LI)

-- the block numbers of tables of this edition, 0000 and 8000 hex: a decoder passes over a table with another (11.4.2 and 11.5.2, the
-- notes; SCOPE 22.1)
abbrev pub numbered : ℕ → Bool
numbered block = either (eqb block 0) (eqb block 0x8000)

-- the words of an entry: a subtitle is a language and a page (SCOPE 12.2), a language is itself (SCOPE 12.3)
unfoldable pub per : ℕ → ℕ
per kind = pick (eqb kind TI) 2 1
