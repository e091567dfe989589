-- What only private calls cite; nothing here needs to be believed.
use Rattle.std.specs.Prelude.{List, ℕ, ◌+◌, ◌^◌, ◌≤◌, ◌<◌, length}
use Rattle.forms.specs.Tables.{Descriptor, entries}
use Rattle.std.specs.declared.result.Result.{Result}
use Rattle.std.specs.declared.result.Result.TheVariants.{Ok, Err}
use Rattle.listing_reader.specs.declared.End.{End}
use Rattle.listing_reader.specs.declared.Row.{Row}
use Rattle.listing_reader.specs.declared.Part.{Part}
use Rattle.listing_reader.specs.Many.{Step, item, stop, Many}

-- no place that is looked at is further on: a line behind the end of a text that lies in memory
abbrev pub place_most : ℕ
place_most = 2 ^ 63 + 65536

-- a place in a text, or its end; no text in memory is longer
pub record Inside (sheet : List ℕ) (at : ℕ) : Type 0 where
  pub inside : at ≤ length sheet
  pub short : length sheet < 2 ^ 63

-- ---- what the walk keeps of what it reads

unfoldable pub piece_of : Step (List ℕ) → Result ℕ End
piece_of (item ws n) = Ok n
piece_of (stop b n) = Err (record { fine = b; long = n })

abbrev pub row_of : Many (List ℕ) → Row
row_of m = record { count = length m.items; fine = m.fine; long = m.long }

unfoldable pub part_of : ℕ → Step Descriptor → Result Part End
part_of kind (item d n) = Ok (record { count = entries kind d.words; long = n })
part_of kind (stop b n) = Err (record { fine = b; long = n })
