-- What is printed, applied to the tables of the first sheet (SCOPE 28.5): over the text and those tables, and nothing else. Of a text that
-- isn't a print for these tables it may give anything.
use Rattle.std.specs.Prelude.{Bool, true, false, List, [], ◌∷◌, ◌++◌, ℕ, zero, suc, ◌+◌, eqb, ltb, length, drop}
use Rattle.laws.specs.Pick.{pick}
use Rattle.texts.specs.Texts.{begins_with}
use Rattle.forms.specs.Tables.{Descriptor, Table, TI, LI}
use Rattle.listing.specs.Lines.{descriptor_lines_of}
use Rattle.listing_reader.specs.declared.lines.Line.{Line}
use Rattle.listing_reader.specs.Lines.{number_from, digits_most, number_at}
use Rattle.listing_reader.specs.Many.{Many}
use Rattle.listing_reader.specs.Reading.{descriptors_of}
use Rattle.sheet_entry.specs.Entries.{key_in}
use Rattle.changes.specs.Lines.{gone_name, new_name, changed_name, kind_word, key_name, key_line}

-- a table's key as a number (SCOPE 20.3)
abbrev pub key_of_table : Table → ℕ
key_of_table t = key_in t.network t.kind t.block

-- ---- a `new=` line at the front of a text

abbrev pub new_kind : List ℕ → ℕ
new_kind text = pick (begins_with (new_name ++ kind_word TI) text) TI LI

abbrev pub new_network : List ℕ → ℕ
new_network text = number_from digits_most 0 (drop (length (new_name ++ kind_word TI)) text)

-- its block, and how long the line is; 0 where none stands there
unfoldable pub new_line : List ℕ → Line
new_line text = number_at (key_name new_name (new_kind text) (new_network text)) 65535 text

-- the lines under it
unfoldable pub new_under : List ℕ → Many Descriptor
new_under text = descriptors_of (new_kind text) (drop (new_line text).long text)

-- the table that is read there, and how long line and table are
unfoldable pub new_table : List ℕ → Table
new_table text =
    record { kind = new_kind text; copyright = 0; block = (new_line text).value; network = new_network text; descriptors = (new_under text).items }

unfoldable pub new_long : List ℕ → ℕ
new_long text = (new_line text).long + (new_under text).long

-- whether a key comes before the next table's
unfoldable pub comes_before : ℕ → List Table → Bool
comes_before key [] = true
comes_before key (t ∷ ts) = ltb key (key_of_table t)

-- whether a `new=` line stands there whose key comes before the next table's
unfoldable pub is_new : List ℕ → List Table → Bool
is_new text tables = pick (eqb (new_line text).long 0) false (comes_before (key_of_table (new_table text)) tables)

-- ---- the next table

-- its `changed=` line, and its own lines
abbrev pub changed_from : Table → List ℕ
changed_from t = key_line changed_name t ++ descriptor_lines_of t

-- the lines behind those
abbrev pub changed_to : Table → List ℕ → Many Descriptor
changed_to t text = descriptors_of t.kind (drop (length (changed_from t)) text)

abbrev pub with_descriptors : Table → List Descriptor → Table
with_descriptors t ds = record { kind = t.kind; copyright = 0; block = t.block; network = t.network; descriptors = ds }

-- it is left out where its `gone=` line stands at the front; another takes its place where its `changed=` line stands there with its own lines
-- behind it; otherwise it stays. `rest` gives what comes of the text and the tables that are left
unfoldable pub next_table : (List ℕ → List Table → List Table) → List ℕ → List Table → List Table
next_table rest text [] = []
next_table rest text (t ∷ ts) =
    elim (begins_with (key_line gone_name t) text) [
      | true ↦ rest (drop (length (key_line gone_name t)) text) ts
      | false ↦
          elim (begins_with (changed_from t) text) [
            | true ↦
                with_descriptors t (changed_to t text).items
                ∷ rest (drop (length (changed_from t) + (changed_to t text).long) text) ts
            | false ↦ t ∷ rest text ts
          ]
    ]

-- ---- along both

-- in so many steps: a `new=` line before the next table's key brings in the table read under it, and otherwise the next table is met
unfoldable pub applied_in : ℕ → List ℕ → List Table → List Table
applied_in zero text tables = tables
applied_in (suc k) text tables =
    elim (is_new text tables) [
      | true ↦ new_table text ∷ applied_in k (drop (new_long text) text) tables
      | false ↦ next_table (applied_in k) text tables
    ]

-- each step passes a table or a byte of the text
unfoldable pub applied : List ℕ → List Table → List Table
applied text tables = applied_in (length text + length tables) text tables
