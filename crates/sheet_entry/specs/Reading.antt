-- The entry that bytes say, or the line at fault (SCOPE 20.6, 20.7).
use Rattle.std.specs.Prelude.{Bool, true, false, List, [], ◌∷◌, ℕ, suc, ◌+◌, ltb, leb, length, get_or, drop}
use Rattle.laws.specs.Pick.{pick, both}
use Rattle.texts.specs.Texts.{begins_with}
use Rattle.forms.specs.Tables.{Descriptor, fits}
use Rattle.listing_reader.specs.Many.{Step, item, stop, Many, none, behind}
use Rattle.listing_reader.specs.Reading.{descriptors_of}
use Rattle.sheet_entry.specs.declared.Form.{Form}
use Rattle.std.specs.declared.result.Result.{Result}
use Rattle.std.specs.declared.result.Result.TheVariants.{Ok, Err}
use Rattle.sheet_entry.specs.declared.Found.{Found}
use Rattle.sheet_entry.specs.declared.NoEntry.{NoEntry}
use Rattle.sheet_entry.specs.declared.NoEntry.TheVariants.{End, Fault}
use Rattle.sheet_entry.specs.Entries.{Entry, key_of, HeadLine, heading, head_lines, empty_line}

-- lines that must all be there, one after the other: their values, or where the one stands that isn't in form
unfoldable pub lines_at : List HeadLine → List ℕ → Many ℕ
lines_at [] bytes = none true 0
lines_at (line ∷ lines) bytes =
    let l = line.reads bytes in
    pick (ltb l.long line.least) (none false 0) (behind l.value l.long (lines_at lines (drop l.long bytes)))

-- of a head's values those of the key, which stand in the same places in both forms
abbrev pub kind_in : List ℕ → ℕ
kind_in values = get_or (drop 2 values) 0 0

abbrev pub network_in : List ℕ → ℕ
network_in values = get_or (drop 2 values) 1 0

abbrev pub block_in : List ℕ → ℕ
block_in values = get_or (drop 2 values) 2 0

-- the entry of a head's values and of its descriptors
abbrev pub entry_from : List ℕ → List Descriptor → Entry
entry_from values ds =
    record {
      stamp = get_or values 0 0;
      mended = get_or values 1 0;
      table =
          record { kind = kind_in values; copyright = 0; block = block_in values; network = network_in values; descriptors = ds };
    }

-- keys rise as numbers: an entry's key isn't below `least`
abbrev pub rises : ℕ → Entry → Bool
rises least e = leb least (key_of e)

-- the entry's empty line is at fault, too, where its key doesn't rise or its table can't be written
unfoldable pub ended : ℕ → List ℕ → Entry → ℕ → Step Entry
ended least bytes e at =
    pick (both (begins_with empty_line (drop at bytes)) (both (fits e.table) (rises least e))) (item e (at + 1)) (stop false at)

unfoldable pub with_table : ℕ → List ℕ → Many ℕ → Many Descriptor → Step Entry
with_table least bytes head ds =
    pick ds.fine (ended least bytes (entry_from head.items ds.items) (head.long + ds.long))
    (stop false (head.long + ds.long))

unfoldable pub with_head : ℕ → List ℕ → Many ℕ → Step Entry
with_head least bytes head =
    pick head.fine (with_table least bytes head (descriptors_of (kind_in head.items) (drop head.long bytes)))
    (stop false head.long)

-- no entry begins where the sheet ends
unfoldable pub entry_at : Form → ℕ → List ℕ → Step Entry
entry_at form least [] = stop true 0
entry_at form least (b ∷ bytes) = with_head least (b ∷ bytes) (lines_at (heading form) (b ∷ bytes))

-- the least key that may follow an entry
abbrev pub above : ℕ → Entry → ℕ
above least e = suc (key_of e)

-- what is told of it: how long it is, its key, its stamp, what was mended, and how long its head is; or why there is none
unfoldable pub found_of : Form → Step Entry → Result Found NoEntry
found_of form (item e n) =
    Ok (record { long = n; key = key_of e; stamp = e.stamp; mended = e.mended; head = length (head_lines form e) })
found_of form (stop b n) = Err (pick b End (Fault n))
