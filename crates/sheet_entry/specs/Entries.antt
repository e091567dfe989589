-- An entry of a day sheet, its key and its text (SCOPE 20.2 to 20.4, 30.1). Characters are their codes, and 10 ends a line.
use Rattle.std.specs.Prelude.{Bool, true, List, [], ◌∷◌, ◌++◌, ℕ, ◌+◌, ◌*◌, eqb, leb}
use Rattle.laws.specs.Pick.{pick, both}
use Rattle.forms.specs.Tables.{Table, TI, fits}
use Rattle.text_lines.specs.Lines.{number_line}
use Rattle.listing.specs.Lines.{mended_name, kind_line, network_name, block_name, descriptor_lines_of}
use Rattle.text_lines.specs.Codes.{codes}
use Rattle.listing_reader.specs.declared.lines.Line.{Line}
use Rattle.listing_reader.specs.Lines.{line_of, number_at, kind_at}
use Rattle.sheet_entry.specs.declared.Form.{Form}
use Rattle.sheet_entry.specs.declared.Form.TheVariants.{Old, New}

-- a table, the second at which its capture started, and how many bytes of its block were mended
pub record Entry : Type 0 where
  pub stamp : ℕ
  pub mended : ℕ
  pub table : Table

-- ---- the key

-- keys rise by network, then kind, LI first, then block (SCOPE 20.3)
abbrev pub key_in : ℕ → ℕ → ℕ → ℕ
key_in network kind block = (network * 2 + pick (eqb kind TI) 1 0) * 65536 + block

unfoldable pub key_of : Entry → ℕ
key_of e = key_in e.table.network e.table.kind e.table.block

-- ---- the head

-- a line of an entry's head: what stands at the front of some bytes, its text by its value, and the fewest bytes that it has. Fewer are a fault
pub record HeadLine : Type 0 where
  pub least : ℕ
  pub reads : List ℕ → Line
  pub text : ℕ → List ℕ

-- a name and a number up to `most`
abbrev pub number_head : List ℕ → ℕ → HeadLine
number_head name most = record { least = 1; reads = number_at name most; text = number_line name }

-- `kind=TI`, `kind=LI`
abbrev pub kind_head : HeadLine
kind_head = record { least = 1; reads = kind_at; text = kind_line }

-- a line that isn't there: it takes no bytes and gives 0
abbrev pub absent_head : HeadLine
absent_head = record { least = 0; reads = λ bytes. line_of true 0 []; text = λ v. [] }

-- `stamp=`
abbrev pub stamp_name : List ℕ
stamp_name = codes "stamp="

-- seconds: below 2 to the 32nd
abbrev pub stamp_most : ℕ
stamp_most = 4294967295

-- the greatest number of mended bytes that an entry can say: the old form says none
abbrev pub mended_most : Form → ℕ
mended_most Old = 0
mended_most New = 2051

-- `mended=`, which the old form doesn't have
abbrev pub mended_head : Form → HeadLine
mended_head Old = absent_head
mended_head New = number_head mended_name (mended_most New)

-- what opens an entry: its stamp, then what was mended
abbrev pub opening : Form → List HeadLine
opening form = number_head stamp_name stamp_most ∷ mended_head form ∷ []

-- what says its key: kind, network, block
abbrev pub key_lines : List HeadLine
key_lines = kind_head ∷ number_head network_name 255 ∷ number_head block_name 65535 ∷ []

-- the lines before those of the table
abbrev pub heading : Form → List HeadLine
heading form = opening form ++ key_lines

-- and their values, the same ones in both forms
abbrev pub head_values : Entry → List ℕ
head_values e = (e.stamp ∷ e.mended ∷ []) ++ (e.table.kind ∷ e.table.network ∷ e.table.block ∷ [])

-- ---- the text

-- lines of these values, one after the other
unfoldable pub spelled_by : List HeadLine → List ℕ → List ℕ
spelled_by [] vs = []
spelled_by (l ∷ ls) [] = []
spelled_by (l ∷ ls) (v ∷ vs) = l.text v ++ spelled_by ls vs

unfoldable pub head_lines : Form → Entry → List ℕ
head_lines form e = spelled_by (heading form) (head_values e)

-- the lines of the table's descriptors (SCOPE 13.2)
abbrev pub table_lines : Entry → List ℕ
table_lines e = descriptor_lines_of e.table

abbrev pub empty_line : List ℕ
empty_line = 10 ∷ []

-- an entry's text: its head, its table, an empty line
unfoldable pub entry_text : Form → Entry → List ℕ
entry_text form e = head_lines form e ++ (table_lines e ++ empty_line)

-- ---- what can stand in a sheet

-- an entry that can be written: its stamp and its number within their ranges, and a table that block writing takes. The copyright bit isn't in
-- the lines, so an entry's table has none
unfoldable pub written : Form → Entry → Bool
written form e =
    both (leb e.stamp stamp_most)
    (both (leb e.mended (mended_most form)) (both (eqb e.table.copyright 0) (fits e.table)))
