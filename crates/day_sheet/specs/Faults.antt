-- The line at fault (SCOPE 20.6, 20.7): which lines of an entry may follow each other, and what a 20 says of the line that its offset names.
use Rattle.std.specs.Prelude.{◌≡◌, true, false, List, [], ◌∷◌, ◌++◌, ℕ, ◌^◌, ◌≤◌, ◌<◌, eqb, take, drop}
use Rattle.laws.specs.Keyed.{rising}
use Rattle.texts.specs.Texts.{begins_with}
use Rattle.forms.specs.Tables.{TI}
use Rattle.text_lines.specs.Lines.{number_line, language_line, page_line}
use Rattle.listing.specs.Lines.{descriptor_name}
use Rattle.sheet_entry.specs.declared.Form.{Form}
use Rattle.sheet_entry.specs.Entries.{Entry, key_of, HeadLine, heading, empty_line}
use Rattle.sheet_entry.specs.Reading.{kind_in}
use Rattle.listing_reader.specs.Lines.{line_of}
use Rattle.day_sheet.specs.Entries.{sheet_text, all_written}
use Rattle.day_sheet.specs.Reading.{InForm}

-- what stands next in an entry: a line of its head, with those behind it and the values before it; behind the head a descriptor, behind a
-- descriptor a language too, behind a language of TI its page
pub data Next : Type 0 where
  head : HeadLine → List HeadLine → List ℕ → Next
  table : ℕ → Next
  words : ℕ → Next
  page : ℕ → Next

-- these lines of a head, behind these values; behind the last of them the table, of the kind that they say
unfoldable pub rest : List HeadLine → List ℕ → Next
rest [] values = table (kind_in values)
rest (l ∷ ls) values = head l ls values

-- an entry begins
abbrev pub begin : Form → Next
begin form = rest (heading form) []

-- a line that stands there and is in form, and what stands next. A line of the head is the text of a value that reads back from it
pub data Follows : Next → List ℕ → Next → Type 0 where
  head-line :
      {l : HeadLine} {ls : List HeadLine} {values : List ℕ} {v : ℕ} → l.reads (l.text v) ≡ line_of true v (l.text v)
      → Follows (head l ls values) (l.text v) (rest ls (values ++ (v ∷ [])))
  first-descriptor : {k n : ℕ} → n ≤ 63 → Follows (table k) (number_line descriptor_name n) (words k)
  next-descriptor : {k n : ℕ} → n ≤ 63 → Follows (words k) (number_line descriptor_name n) (words k)
  language-line : {k w : ℕ} → eqb k TI ≡ false → w < 2 ^ 24 → Follows (words k) (language_line w) (words k)
  subtitle-line : {k w : ℕ} → eqb k TI ≡ true → w < 2 ^ 24 → Follows (words k) (language_line w) (page k)
  page-line : {k w : ℕ} → w < 2 ^ 24 → Follows (page k) (page_line w) (words k)

-- lines, one after the other
pub data Lines : Next → List ℕ → Next → Type 0 where
  no_line : {a : Next} → Lines a [] a
  and-line : {a b c : Next} {line rest : List ℕ} → Follows a line b → Lines b rest c → Lines a (line ++ rest) c

-- of bytes that aren't a sheet in form a place is the first line at fault
pub record FirstFault (form : Form) (bytes : List ℕ) (at : ℕ) : Type 0 where
  pub not_in_form : InForm form bytes → ⊥
  -- before it stand entries that rise and can be written, and the first lines of one more, each in form and where it may stand
  pub entries : List Entry
  pub rise : rising key_of entries ≡ true
  pub can : all_written form entries ≡ true
  pub lines : List ℕ
  pub next : Next
  pub in_form : Lines (begin form) lines next
  pub before : take at bytes ≡ sheet_text form entries ++ lines
  -- no line that may stand next stands there
  pub no_line : (line : List ℕ) (b : Next) → Follows next line b → begins_with line (drop at bytes) ≡ false
  -- nor an empty line, where one would end a sheet in form
  pub no_end : InForm form (take at bytes ++ empty_line) → begins_with empty_line (drop at bytes) ≡ false
