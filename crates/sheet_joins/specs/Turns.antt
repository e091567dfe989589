-- What is found of two sheets at two places (SCOPE 20.8): of the next key the entry of the first, of the second, or of both.
use Rattle.std.specs.Prelude.{List, ℕ, ltb}
use Rattle.std.specs.declared.option.Option.{Option}
use Rattle.std.specs.declared.option.Option.TheVariants.{None, Some}
use Rattle.std.specs.declared.result.Result.{Result}
use Rattle.std.specs.declared.result.Result.TheVariants.{Ok, Err}
use Rattle.laws.specs.Pick.{pick}
use Rattle.sheet_entry.specs.declared.Form.{Form}
use Rattle.sheet_entry.specs.declared.Found.{Found}
use Rattle.sheet_entry.specs.declared.NoEntry.{NoEntry}
use Rattle.sheet_entry.specs.Reading.{entry_at, found_of}
use Rattle.sheet_entry.specs.declared.NoEntry.TheVariants.{End}
use Rattle.sheet_joins.specs.declared.Next.{Next}
use Rattle.sheet_joins.specs.declared.Turn.{Turn}
use Rattle.sheet_joins.specs.declared.Turn.TheVariants.{First, Second, Both}

-- what has the next key of two, and nothing beside it of the other, as at a sheet's end
abbrev pub next : Result Found NoEntry → Result Found NoEntry → Next
next f g = record { first = f; second = g }

unfoldable pub next_by : Result Found NoEntry → Result Found NoEntry → Next
next_by (Ok f) (Ok g) = pick (ltb f.key g.key) (next (Ok f) (Err End)) (pick (ltb g.key f.key) (next (Err End) (Ok g)) (next (Ok f) (Ok g)))
next_by (Ok f) (Err w) = next (Ok f) (Err w)
next_by (Err w) g = next (Err w) g

-- at the front of two texts
unfoldable pub next_of : Form → List ℕ → List ℕ → Next
next_of form a b = next_by (found_of form (entry_at form 0 a)) (found_of form (entry_at form 0 b))

-- which of two entries has the next key, or both; none where no entry is there
unfoldable pub turn_by : Result Found NoEntry → Result Found NoEntry → Option Turn
turn_by (Ok f) (Ok g) = Some (pick (ltb f.key g.key) (First f) (pick (ltb g.key f.key) (Second g) (Both f g)))
turn_by (Ok f) (Err w) = Some (First f)
turn_by (Err w) (Ok g) = Some (Second g)
turn_by (Err w) (Err x) = None

-- at the front of two texts
unfoldable pub turn_of : Form → List ℕ → List ℕ → Option Turn
turn_of form a b = turn_by (found_of form (entry_at form 0 a)) (found_of form (entry_at form 0 b))

-- how far a turn goes on in the first text, and in the second
abbrev pub first_long : Turn → ℕ
first_long (First f) = f.long
first_long (Second g) = 0
first_long (Both f g) = f.long

abbrev pub second_long : Turn → ℕ
second_long (First f) = 0
second_long (Second g) = g.long
second_long (Both f g) = g.long
