-- What only private calls cite, of one entry taken of two sheets that are merged; nothing here needs to be believed.
use Rattle.std.specs.Prelude.{Bool, true, false, List, ℕ, ◌+◌, ◌≤◌, ◌-◌, ltb, leb, length, take, drop}
use Rattle.laws.specs.Pick.{pick}
use Rattle.laws.specs.Orders.{before}
use Rattle.sheet_entry.specs.declared.Found.{Found}
use Rattle.sheet_joins.specs.declared.Turn.{Turn}
use Rattle.sheet_joins.specs.declared.Turn.TheVariants.{First, Second, Both}

-- the table lines of the entry that was found at the front: behind its head, before its empty line
unfoldable pub found_lines : List ℕ → Found → List ℕ
found_lines bytes f = take (f.long - 1 - f.head) (drop f.head bytes)

-- of two tables' lines, each with what was mended, whether it is the second's that stay
unfoldable pub lines_stay : List ℕ → ℕ → List ℕ → ℕ → Bool
lines_stay a m b n = pick (before a b) (pick (before b a) (leb n m) true) false

-- of two entries of one key, whether it is the second's that stays
unfoldable pub second_stays : List ℕ → Found → List ℕ → Found → Bool
second_stays a f b g =
    pick (ltb f.stamp g.stamp) true
    (pick (ltb g.stamp f.stamp) false
    (lines_stay (found_lines a f) f.mended (found_lines b g) g.mended))

-- the text that stays
unfoldable pub turn_text : Turn → List ℕ → List ℕ → List ℕ
turn_text (First f) a b = take f.long a
turn_text (Second g) a b = take g.long b
turn_text (Both f g) a b = pick (second_stays a f b g) (take g.long b) (take f.long a)

-- an entry that was found there lies within the sheet, with its head before its empty line
pub record Lies (sheet : List ℕ) (at : ℕ) (f : Found) : Type 0 where
  pub head_first : f.head + 1 ≤ f.long
  pub inside : at + f.long ≤ length sheet
  pub small : length sheet ≤ 65000

-- the same of each entry of a turn
abbrev pub Met : List ℕ → ℕ → List ℕ → ℕ → Turn → Type 0
Met first i second j (First f) = Lies first i f
Met first i second j (Second g) = Lies second j g
Met first i second j (Both f g) = Lies first i f × Lies second j g
