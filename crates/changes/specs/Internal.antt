-- What only private calls cite; nothing here needs to be believed.
use Rattle.std.specs.Prelude.{List, [], ◌++◌, ℕ, ◌/◌, ◌%◌, eqb}
use Rattle.laws.specs.Pick.{pick}
use Rattle.texts.specs.Texts.{same_text}
use Rattle.forms.specs.Tables.{TI, LI}
use Rattle.text_lines.specs.Lines.{number_line}
use Rattle.sheet_entry.specs.declared.Found.{Found}
use Rattle.sheet_joins.specs.declared.Turn.{Turn}
use Rattle.sheet_joins.specs.declared.Turn.TheVariants.{First, Second, Both}
use Rattle.sheet_joins.specs.Internal.{found_lines}
use Rattle.changes.specs.Lines.{gone_name, new_name, changed_name, key_name}

-- what a key's number says
abbrev pub kind_in : ℕ → ℕ
kind_in key = pick (eqb (key / 65536 % 2) 1) TI LI

abbrev pub front_of : List ℕ → ℕ → List ℕ
front_of name key = key_name name (kind_in key) (key / 65536 / 2)

-- the line of a key by its number
unfoldable pub key_text : List ℕ → ℕ → List ℕ
key_text name key = number_line (front_of name key) (key % 65536)

-- the change of one key, of what is found at the front of two texts
unfoldable pub both_text : List ℕ → Found → List ℕ → Found → List ℕ
both_text a f b g =
    pick (same_text (found_lines a f) (found_lines b g)) [] (key_text changed_name g.key ++ (found_lines a f ++ found_lines b g))

unfoldable pub turn_change : Turn → List ℕ → List ℕ → List ℕ
turn_change (First f) a b = key_text gone_name f.key
turn_change (Second g) a b = key_text new_name g.key ++ found_lines b g
turn_change (Both f g) a b = both_text a f b g

-- no place that a print takes is further on
abbrev pub place_most : ℕ
place_most = 200000
