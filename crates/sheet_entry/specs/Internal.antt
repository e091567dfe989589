-- What only private calls cite; nothing here needs to be believed.
use Rattle.std.specs.Prelude.{Bool, true, false, List, ◌≡◌, ℕ, ◌+◌, ◌*◌, leb, length, get_or}
use Rattle.std.specs.declared.result.Result.{Result}
use Rattle.std.specs.declared.result.Result.TheVariants.{Ok, Err}
use Rattle.laws.specs.Pick.{pick, both}
use Rattle.forms.specs.Tables.{numbered, per, fits}
use Rattle.forms.specs.Form.{form, table_in}
use Rattle.listing_reader.specs.declared.Summary.{Summary}
use Rattle.listing_reader.specs.Many.{Many}
use Rattle.sheet_entry.specs.declared.Form.{Form}
use Rattle.sheet_entry.specs.declared.Form.TheVariants.{Old, New}
use Rattle.sheet_entry.specs.declared.Named.{Named}
use Rattle.sheet_entry.specs.declared.Head.{Head}
use Rattle.sheet_entry.specs.Reading.{kind_in, network_in, block_in}

-- whether a table with this number and these counts can be written
abbrev pub counts_fit : ℕ → ℕ → Summary → Bool
counts_fit kind block t =
    both (numbered block)
    (both (leb t.count 63) (pick t.over false (leb (58 + 10 * t.count + 24 * (per kind * t.entries)) 8184)))

-- a key's lines, where all are in form; else where the one stands that isn't
abbrev pub named_in : Many ℕ → Named
named_in m = record { kind = get_or m.items 0 0; network = get_or m.items 1 0; block = get_or m.items 2 0; long = m.long }

abbrev pub named_of : Many ℕ → Result Named ℕ
named_of m = pick m.fine (Ok (named_in m)) (Err m.long)

-- the same of a head
abbrev pub head_in : Many ℕ → Head
head_in m =
    record {
      stamp = get_or m.items 0 0;
      mended = get_or m.items 1 0;
      kind = kind_in m.items;
      network = network_in m.items;
      block = block_in m.items;
      long = m.long;
    }

abbrev pub head_of : Many ℕ → Result Head ℕ
head_of m = pick m.fine (Ok (head_in m)) (Err m.long)

-- ---- the text of one entry

-- a form that can be written
pub record Judged (f : List ℕ) : Type 0 where
  pub whole : length f ≡ length (form (table_in f))
  pub fit : fits (table_in f) ≡ true

-- the line of what was mended isn't longer
abbrev pub mended_room : Form → ℕ
mended_room Old = 0
mended_room New = 12

-- no head is longer: lines of 17, 0 or 12, 8, 12 and 12 bytes
abbrev pub head_most : Form → ℕ
head_most form = 49 + mended_room form

-- no entry is longer: a head, 63 descriptors of 14 bytes and 312 languages of 16, which are 8,176 bits of 8,184, and an empty line
abbrev pub entry_most : Form → ℕ
entry_most form = 5875 + head_most form

-- the room that is held, whatever the form: for a head, for an entry
abbrev pub head_room : ℕ
head_room = 61

abbrev pub entry_room : ℕ
entry_room = 5936
