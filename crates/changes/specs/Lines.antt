-- What is printed of two sheets (SCOPE 28.2). Characters are their codes, and 10 ends a line.
use Rattle.std.specs.Prelude.{List, [], ◌∷◌, ◌++◌, ℕ, eqb}
use Rattle.laws.specs.Pick.{pick}
use Rattle.texts.specs.Texts.{same_text}
use Rattle.forms.specs.Tables.{Table, TI}
use Rattle.text_lines.specs.Codes.{codes}
use Rattle.text_lines.specs.Lines.{decimal, number_line}
use Rattle.sheet_entry.specs.Entries.{Entry, table_lines}
use Rattle.sheet_joins.specs.Along.{Stands, in_first, in_second, in_both, along}

-- ---- the line of a key

-- `gone=`
abbrev pub gone_name : List ℕ
gone_name = codes "gone="

-- `new=`
abbrev pub new_name : List ℕ
new_name = codes "new="

-- `changed=`
abbrev pub changed_name : List ℕ
changed_name = codes "changed="

-- a kind and a comma
unfoldable pub kind_word : ℕ → List ℕ
kind_word kind = pick (eqb kind TI) (codes "TI,") (codes "LI,")

-- a name, a kind and a network, a comma behind each
unfoldable pub key_name : List ℕ → ℕ → ℕ → List ℕ
key_name name kind network = name ++ (kind_word kind ++ (decimal network ++ (44 ∷ [])))

-- and the block: the line of a table's key
unfoldable pub key_line : List ℕ → Table → List ℕ
key_line name t = number_line (key_name name t.kind t.network) t.block

-- ---- the lines of a change

-- of an entry that went its key; of one that came its key and its table's lines; of one in both sheets nothing where the table's lines are the
-- same, and otherwise its key, the first sheet's lines and then the second's. Stamps and what was mended aren't looked at
unfoldable pub change_lines : Stands → List ℕ
change_lines (in_first x) = key_line gone_name x.table
change_lines (in_second y) = key_line new_name y.table ++ table_lines y
change_lines (in_both x y) =
    pick (same_text (table_lines x) (table_lines y)) [] (key_line changed_name y.table ++ (table_lines x ++ table_lines y))

unfoldable pub changes_of : List Stands → List ℕ
changes_of [] = []
changes_of (s ∷ ss) = change_lines s ++ changes_of ss

-- all that is printed: the changes in the order of the keys of both
unfoldable pub printed : List Entry → List Entry → List ℕ
printed xs ys = changes_of (along xs ys)
