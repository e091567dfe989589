-- What only private calls cite; nothing here needs to be believed.
use Rattle.std.specs.Prelude.{true, List, [], ◌∷◌, ◌≡◌, ℕ, ◌+◌, ◌≤◌, eqb, length, drop}
use Rattle.laws.specs.Pick.{pick}
use Rattle.listing_reader.specs.Many.{Many}
use Rattle.sheet_entry.specs.declared.Form.{Form}
use Rattle.forms.specs.Tables.{TI, LI}
use Rattle.sheet_entry.specs.Entries.{Entry, key_in, key_of, entry_text}
use Rattle.std.specs.declared.result.Result.{Result}
use Rattle.std.specs.declared.result.Result.TheVariants.{Ok, Err}
use Rattle.day_sheet.specs.declared.dropping.Spot.{Spot}
use Rattle.day_sheet.specs.Entries.{entry_limit}
use Rattle.day_sheet.specs.Reading.{sheet_of}

-- a place in a sheet that is judged, or its end: sheets that are longer are refused first
pub record Inside (sheet : List ℕ) (at : ℕ) : Type 0 where
  pub inside : at ≤ length sheet
  pub short : length sheet ≤ 65000

-- how many entries a sheet has, or where the line at fault stands
abbrev pub sheet_read : Many Entry → Result ℕ ℕ
sheet_read m = pick m.fine (Ok (length m.items)) (Err m.long)

-- a place in a sheet from which on it is in form
pub record Halfway (form : Form) (sheet : List ℕ) (at : ℕ) : Type 0 where
  pub within : Inside sheet at
  pub fine : (sheet_of form (drop at sheet)).fine ≡ true

-- ---- one entry dropped

-- the number of a key that is asked for; one that no entry has where the kind is none
abbrev pub asked : ℕ → ℕ → ℕ → ℕ
asked network kind block = pick (eqb kind TI) (key_in network TI block) (pick (eqb kind LI) (key_in network LI block) 33554432)

-- the entries but that of a key
unfoldable pub without_key : ℕ → List Entry → List Entry
without_key key [] = []
without_key key (e ∷ es) = pick (eqb (key_of e) key) (without_key key es) (e ∷ without_key key es)

-- where the entry of a key stands in the text, and how long it is; where there is none, the end, and 0
unfoldable pub spot_of : Form → ℕ → List Entry → Spot
spot_of form key [] = record { from = 0; long = 0 }
spot_of form key (e ∷ es) =
    pick (eqb (key_of e) key) (record { from = 0; long = length (entry_text form e) })
    (record { from = length (entry_text form e) + (spot_of form key es).from; long = (spot_of form key es).long })

-- the same, behind so many bytes
abbrev pub spot_from : Form → ℕ → ℕ → List Entry → Spot
spot_from form key at es = record { from = at + (spot_of form key es).from; long = (spot_of form key es).long }

-- so many entries may there be, of which one goes where it is long
abbrev pub most_with : ℕ → ℕ
most_with long = pick (eqb long 0) entry_limit 65
