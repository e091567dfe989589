-- What is printed is read again: no line of a table stands behind a table's lines, and the lines give the table. Assumes nothing.
use mathlib.Core.Path.{◌≡◌, ◌∙◌, refl, sym, ap}
use mathlib.Core.Bool.{Bool, true, false}
use mathlib.Core.List.{List, [], ◌∷◌, ◌++◌}
use Prim.Native.Nat.{ℕ, ◌+◌, ◌≤◌}
use native.Mathlib.Omega.{arith}
use lib.Dec.{eqb, leb}
use lib.ListN.{length, drop}
use lib.Seq.{drop-append_seam}
use borrow.Author.Tests.{ne_eqb}
use Rattle.laws.specs.Pick.{pick}
use Rattle.laws.proofs.Tests.{both_false}
use Rattle.texts.specs.Texts.{begins_with, same_text}
use Rattle.forms.specs.Tables.{Descriptor, Table}
use Rattle.text_lines.specs.Lines.{number_line, language_line}
use Rattle.listing.specs.Lines.{descriptor_lines_of}
use Rattle.listing_reader.specs.declared.lines.Line.{Line}
use Rattle.listing_reader.specs.Lines.{number_from, number_at, language_at}
use Rattle.listing_reader.specs.Many.{Many}
use Rattle.listing_reader.specs.Reading.{with_number, descriptors_of}
use Rattle.listing_reader.proofs.Rowed.{Closed, table_before, number_some}
use Rattle.sheet_entry.specs.Entries.{Entry, key_of, table_lines}
use Rattle.sheet_entry.proofs.Entered.{all_described, written-parts}
use Rattle.sheet_joins.specs.Along.{Stands, in_first, in_second, in_both}
use Rattle.day_sheet.proofs.Fronts.{Fit}
use Rattle.day_sheet.proofs.Choosing.{written-sendable, key-only}
use Rattle.changes.specs.Lines.{new_name, changed_name, key_name, key_line, change_lines, changes_of}
use Rattle.changes.specs.Calls.{table_of}
use Rattle.changes.specs.Applying.{new_line, new_under, new_table, new_long}
use Rattle.changes.proofs.Keys.{keyed, new_back}
use Rattle.sheet_entry.specs.declared.Form.{Form}

-- ---- behind a table's lines

pub closed_end : Closed []
unfolding language_at language_line with_number number_at number_line number_from begins_with
closed_end = record { no_language = refl; no_descriptor = λ kind. refl }

-- another letter than `l` and `d`
closed_by : (b : ℕ) (rest : List ℕ) → eqb b 108 ≡ false → eqb b 100 ≡ false → Closed (b ∷ rest)
unfolding language_at language_line with_number number_at number_line begins_with
closed_by b rest l d =
    record {
      no_language = rw l;
      no_descriptor = λ kind. rw (d, both_false (leb (number_from 10 0 (drop 10 rest)) 63));
    }

pub changes_closed : (ss : List Stands) → Closed (changes_of ss)
unfolding changes_of change_lines key_line number_line key_name
changes_closed [] = closed_end
changes_closed (in_first x ∷ ss) = closed_by 103 _ refl refl
changes_closed (in_second y ∷ ss) = closed_by 110 _ refl refl
changes_closed (in_both x y ∷ ss) = go (same_text (table_lines x) (table_lines y)) (changes_closed ss)
  where
    go : (z : Bool) → Closed (changes_of ss) → Closed (pick z [] (key_line changed_name y.table ++ (table_lines x ++ table_lines y)) ++ changes_of ss)
    go true c = c
    go false c = closed_by 99 _ refl refl

-- ---- a table from its lines

pub table_is :
    {t u : Table} → t.kind ≡ u.kind → t.copyright ≡ u.copyright → t.block ≡ u.block → t.network ≡ u.network
    → t.descriptors ≡ u.descriptors → t ≡ u
table_is {t} {u} k c b n d =
    ap (λ (z : ℕ). record { kind = z; copyright = t.copyright; block = t.block; network = t.network; descriptors = t.descriptors }) k
    ∙ ap (λ (z : ℕ). record { kind = u.kind; copyright = z; block = t.block; network = t.network; descriptors = t.descriptors }) c
    ∙ ap (λ (z : ℕ). record { kind = u.kind; copyright = u.copyright; block = z; network = t.network; descriptors = t.descriptors }) b
    ∙ ap (λ (z : ℕ). record { kind = u.kind; copyright = u.copyright; block = u.block; network = z; descriptors = t.descriptors }) n
    ∙ ap (λ (z : List Descriptor). record { kind = u.kind; copyright = u.copyright; block = u.block; network = u.network; descriptors = z }) d

module _ (form : Form) where
  pub no-copyright : (e : Entry) → Fit form e → e.table.copyright ≡ 0
  no-copyright e w = (written-parts form e w).uncopied

  pub lines_read :
      (e : Entry) (tail : List ℕ) → Fit form e → Closed tail
      → descriptors_of e.table.kind (table_lines e ++ tail) ≡ record { items = e.table.descriptors; fine = true; long = length (table_lines e) }
  unfolding descriptor_lines_of
  lines_read e tail w c =
      let s = written-sendable form e w in
      table_before e.table.kind e.table.descriptors tail (all_described e.table.kind e.table.descriptors s.entire_all s.loops_fit) c

  -- the key and the lines are the table's own
  pub same-table : (x y : Entry) → Fit form x → Fit form y → key_of x ≡ key_of y → table_lines x ≡ table_lines y → table_of x ≡ table_of y
  same-table x y v w k l =
      let o = key-only form x y v w k in
      let a = lines_read x [] v closed_end in
      let b = lines_read y [] w closed_end in
      let m : descriptors_of x.table.kind (table_lines x ++ []) ≡ descriptors_of y.table.kind (table_lines y ++ []) =
      ap (λ (z : List ℕ). descriptors_of x.table.kind (z ++ [])) l ∙ ap (λ (z : ℕ). descriptors_of z (table_lines y ++ [])) o.1 in
      let d : x.table.descriptors ≡ y.table.descriptors =
      ap (λ (z : Many Descriptor). z.items) (sym a ∙ m ∙ b) in
      table_is o.1 (no-copyright x v ∙ sym (no-copyright y w)) o.2 o.0 d

-- ---- a new table

-- what stands under its line is read as it
pub record Brought (y : Entry) (text : List ℕ) : Type 0 where
  pub there : eqb (new_line text).long 0 ≡ false
  pub table : new_table text ≡ table_of y
  pub long : new_long text ≡ length (key_line new_name y.table) + length (table_lines y)

module _ (form : Form) where
  under-read :
      (y : Entry) (more : List ℕ) → Fit form y → Closed more
      → new_under (key_line new_name y.table ++ (table_lines y ++ more))
      ≡ record { items = y.table.descriptors; fine = true; long = length (table_lines y) }
  unfolding new_under
  under-read y more w c =
      let line = key_line new_name y.table in
      let r = new_back y.table (table_lines y ++ more) (keyed form y w) in
      let n : (new_line (line ++ (table_lines y ++ more))).long ≡ length line = ap (λ (l : Line). l.long) r.line_is in
      rw (r.kind_is, n, drop-append_seam line (table_lines y ++ more)) (lines_read form y more w c)

pub some_line : (name : List ℕ) (t : Table) → 1 ≤ length (key_line name t)
unfolding key_line
some_line name t = number_some (key_name name t.kind t.network) t.block

module _ (form : Form) where
  pub brought : (y : Entry) (more : List ℕ) → Fit form y → Closed more → Brought y (key_line new_name y.table ++ (table_lines y ++ more))
  unfolding new_table new_long
  brought y more w c =
      let line = key_line new_name y.table in
      let r = new_back y.table (table_lines y ++ more) (keyed form y w) in
      let n : (new_line (line ++ (table_lines y ++ more))).long ≡ length line = ap (λ (l : Line). l.long) r.line_is in
      let u = under-read form y more w c in
      let o = some_line new_name y.table in
      record {
        there = rw n (ne_eqb (length line) 0 (λ z. omega arith));
        table =
            table_is r.kind_is (sym (no-copyright form y w)) (ap (λ (l : Line). l.value) r.line_is) r.network_is
            (ap (λ (m : Many Descriptor). m.items) u);
        long = rw (n, ap (λ (m : Many Descriptor). m.long) u);
      }
