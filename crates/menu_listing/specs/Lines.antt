-- The lines of a menu and of its events: SCOPE 23.8. Characters are their codes, and 10 ends a line.
use Rattle.std.specs.Prelude.{Bool, true, false, List, [], ◌∷◌, ◌++◌, map, ℕ, eqb, ltb}
use Rattle.laws.specs.Pick.{pick}
use Rattle.menu_forms.specs.Menus.{Event, Menu, codes_of}
use Rattle.text_lines.specs.Lines.{decimal, number_line}
use Rattle.text_lines.specs.Codes.{codes}

-- ---- a line each

-- `level=`
abbrev pub level_name : List ℕ
level_name = codes "level="

-- `menu=`
abbrev pub menu_name : List ℕ
menu_name = codes "menu="

-- `header=`
abbrev pub header_name : List ℕ
header_name = codes "header="

-- `event=`
abbrev pub event_name : List ℕ
event_name = codes "event="

-- `link=`
abbrev pub link_name : List ℕ
link_name = codes "link="

-- `missing=`
abbrev pub missing_name : List ℕ
missing_name = codes "missing="

-- `deeper=`
abbrev pub deeper_name : List ℕ
deeper_name = codes "deeper="

-- a code as it is printed: one below 20 as a space, 7F as `#`, the others as they stand
unfoldable pub shown : ℕ → ℕ
shown code = pick (ltb code 32) 32 (pick (eqb code 127) 35 code)

-- a name with its `=`, and a string
unfoldable pub text_line : List ℕ → List ℕ → List ℕ
text_line name codes = name ++ map shown codes ++ (10 ∷ [])

-- a link: its type, a comma, and the number of the block that it leads to
unfoldable pub link_line : ℕ → ℕ → List ℕ
link_line kind number = number_line (link_name ++ decimal kind ++ (44 ∷ [])) number

-- ---- the lines of a menu

-- the type of a link to another menu, the only one that is followed (11.12.5)
abbrev pub to_menu : ℕ
to_menu = 1

-- what stands behind an event's own lines: where its link leads to a menu, what is made of following it
abbrev pub behind : (ℕ → List ℕ) → Bool → ℕ → List ℕ
behind follow true number = follow number
behind follow false number = []

-- an event: its level, its string, its link, and what follows the link
unfoldable pub event_lines : (ℕ → List ℕ) → ℕ → Event → List ℕ
event_lines follow level e =
    number_line level_name level
    ++ text_line event_name (codes_of e)
    ++ link_line e.link_type e.link
    ++ behind follow (eqb e.link_type to_menu) e.link

unfoldable pub events_lines : (ℕ → List ℕ) → ℕ → List Event → List ℕ
events_lines follow level [] = []
events_lines follow level (e ∷ es) = event_lines follow level e ++ events_lines follow level es

-- the first of the menus that have this number: its level, the number, its header, and its events; where there is none, that it is missing
unfoldable pub menu_lines : (ℕ → List ℕ) → ℕ → ℕ → List Menu → List ℕ
menu_lines follow level number [] = number_line missing_name number
menu_lines follow level number (m ∷ ms) =
    number_line level_name level
    ++ number_line menu_name number
    ++ text_line header_name m.header.codes
    ++ events_lines follow level m.events
