-- The desk's lines of a table: SCOPE 13.2, 19.7 and 26.6. Characters are their codes, and 10 ends a line.
use Rattle.std.specs.Prelude.{List, [], ◌∷◌, ◌++◌, ℕ, eqb}
use Rattle.laws.specs.Pick.{pick}
use Rattle.forms.specs.Tables.{Descriptor, Table, TI}
use Rattle.text_lines.specs.Lines.{number_line, language_line, page_line}
use Rattle.text_lines.specs.Codes.{codes}

-- ---- a line each

abbrev pub kind_ti : List ℕ
kind_ti = codes "kind=TI" ++ (10 ∷ [])

abbrev pub kind_li : List ℕ
kind_li = codes "kind=LI" ++ (10 ∷ [])

-- `kind=TI`, `kind=LI`
unfoldable pub kind_line : ℕ → List ℕ
kind_line kind = pick (eqb kind TI) kind_ti kind_li

-- `block=`
abbrev pub block_name : List ℕ
block_name = codes "block="

-- `network=`
abbrev pub network_name : List ℕ
network_name = codes "network="

-- `mended=`
abbrev pub mended_name : List ℕ
mended_name = codes "mended="

-- `joined=`
abbrev pub joined_name : List ℕ
joined_name = codes "joined="

-- `joined=1` of a second byte of 1, and of any other nothing (SCOPE 26.6)
unfoldable pub joined_line : ℕ → List ℕ
joined_line second = pick (eqb second 1) (number_line joined_name 1) []

-- `descriptor=`
abbrev pub descriptor_name : List ℕ
descriptor_name = codes "descriptor="

-- ---- the lines of a table

-- LI: languages
unfoldable pub language_lines : List ℕ → List ℕ
language_lines [] = []
language_lines (l ∷ ws) = language_line l ++ language_lines ws

-- TI: languages with a page each
unfoldable pub subtitle_lines : List ℕ → List ℕ
subtitle_lines [] = []
subtitle_lines (l ∷ []) = language_line l
subtitle_lines (l ∷ p ∷ ws) = language_line l ++ page_line p ++ subtitle_lines ws

-- pages are printed in TI only (SCOPE 13.2)
unfoldable pub entry_lines : ℕ → List ℕ → List ℕ
entry_lines kind ws = pick (eqb kind TI) (subtitle_lines ws) (language_lines ws)

unfoldable pub descriptor_line : ℕ → ℕ → List ℕ → List ℕ
descriptor_line kind id words = number_line descriptor_name id ++ entry_lines kind words

unfoldable pub descriptor_lines : ℕ → List Descriptor → List ℕ
descriptor_lines kind [] = []
descriptor_lines kind (d ∷ ds) = descriptor_line kind d.id d.words ++ descriptor_lines kind ds

-- kind, block, network, how many bytes of the block were mended, and whether it spans pages; these two aren't parts of the table (SCOPE 19.7,
-- 26.6)
unfoldable pub head_lines : ℕ → ℕ → Table → List ℕ
head_lines mended second t =
    kind_line t.kind
    ++ number_line block_name t.block
    ++ number_line network_name t.network
    ++ number_line mended_name mended
    ++ joined_line second

-- the lines from `descriptor=` on
unfoldable pub descriptor_lines_of : Table → List ℕ
descriptor_lines_of t = descriptor_lines t.kind t.descriptors

-- the lines of a table, of whose block so many bytes were mended and whose record has this second byte
unfoldable pub lines_of : ℕ → ℕ → Table → List ℕ
lines_of mended second t = head_lines mended second t ++ descriptor_lines_of t
