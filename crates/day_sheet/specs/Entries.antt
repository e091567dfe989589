-- The day sheet as a list of entries, and its text (SCOPE 20.2 to 20.5, 30.1).
use Rattle.std.specs.Prelude.{Bool, true, List, [], ◌∷◌, ◌++◌, ℕ}
use Rattle.laws.specs.Pick.{both}
use Rattle.sheet_entry.specs.declared.Form.{Form}
use Rattle.sheet_entry.specs.declared.Form.TheVariants.{Old, New}
use Rattle.sheet_entry.specs.Entries.{Entry, entry_text, written}

-- a sheet's text: its entries, one after the other
unfoldable pub sheet_text : Form → List Entry → List ℕ
sheet_text form [] = []
sheet_text form (e ∷ es) = entry_text form e ++ sheet_text form es

unfoldable pub all_written : Form → List Entry → Bool
all_written form [] = true
all_written form (e ∷ es) = both (written form e) (all_written form es)

-- the limits of a sheet (SCOPE 20.5)
abbrev pub entry_limit : ℕ
entry_limit = 64

-- in the new form 64 times 12 bytes more, as many as its lines of what was mended can take
abbrev pub byte_limit : Form → ℕ
byte_limit Old = 16384
byte_limit New = 17152
