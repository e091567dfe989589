-- The sheet that bytes say, or the first line at fault (SCOPE 20.6, 20.7).
use Rattle.std.specs.Prelude.{◌≡◌, true, List, ℕ, length}
use Rattle.listing_reader.specs.Many.{Many, many}
use Rattle.sheet_entry.specs.Entries.{Entry}
use Rattle.sheet_entry.specs.Reading.{entry_at, above}
use Rattle.sheet_entry.specs.declared.Form.{Form}

module _ (form : Form) where
  -- the entries from here on, of which the first has at least this key
  unfoldable pub sheet_from : ℕ → List ℕ → Many Entry
  sheet_from least bytes = many above (entry_at form) (length bytes) least bytes

  -- a sheet: `fine` where it is in form; `items` are then its entries, and otherwise `long` is the offset of the first line at fault
  abbrev pub sheet_of : List ℕ → Many Entry
  sheet_of bytes = sheet_from 0 bytes

  -- a sheet in form
  abbrev pub InForm : List ℕ → Type 0
  InForm sheet = (sheet_of sheet).fine ≡ true
