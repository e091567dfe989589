-- What only private calls cite; nothing here needs to be believed. A form as the walk reads it, byte by byte, and text that may stop past
-- the room.
use Rattle.std.specs.Prelude.{◌≡◌, Bool, true, false, List, [], ◌∷◌, ◌++◌, ℕ, zero, suc, ◌+◌, ◌*◌, ◌≤◌, ◌<◌, eqb, length, get_or, drop}
use Rattle.laws.specs.Pick.{both}
use Rattle.fields.specs.Fields.{whole}
use Rattle.blocks.specs.Block.{head_length, blocks}
use Rattle.menu_reader.specs.Reading.{read_rules, menu_read}
use Rattle.menu_forms.specs.Menus.{Menu, info_bytes}
use Rattle.menu_forms.specs.Form.{codes_in, opening, menu_in}
use Rattle.text_lines.specs.Lines.{number_line}
use Rattle.text_lines.specs.Put.{Put}
use Rattle.menu_listing.specs.Lines.{level_name, menu_name, header_name, event_name, to_menu, text_line, link_line, behind}
use Rattle.menu_listing.specs.Listing.{holding, menus_of}
use Rattle.menu_listing.specs.Kept.{kept_menus}
use Rattle.menu_listing.specs.declared.Source.{Source}
use Rattle.menu_listing.specs.declared.Source.TheVariants.{Records, Shelf}

-- ---- a form

-- how long the k attributes at the front of g are
unfoldable pub attributes_length : ℕ → List ℕ → ℕ
attributes_length zero g = 0
attributes_length (suc k) g = 1 + info_bytes (get_or g 0 0) + attributes_length k (drop (1 + info_bytes (get_or g 0 0)) g)

-- of the string at the front of g: the place of its codes, its length, and its codes
abbrev pub codes_place : List ℕ → ℕ
codes_place g = 2 + 4 * get_or g 0 0

abbrev pub string_length : List ℕ → ℕ
string_length g = codes_place g + get_or g 1 0

abbrev pub codes_at : List ℕ → List ℕ
codes_at g = codes_in (get_or g 1 0) (drop (codes_place g) g)

-- of the event at the front of g: the place of its string, its length, and its link
abbrev pub text_place : List ℕ → ℕ
text_place g = 4 + attributes_length (get_or g 3 0) (drop 4 g)

abbrev pub event_length : List ℕ → ℕ
event_length g = text_place g + string_length (drop (text_place g) g)

abbrev pub link_at : List ℕ → ℕ
link_at g = whole 8 (get_or g 0 0 ∷ get_or g 1 0 ∷ [])

-- its own lines, and those with what is behind them
unfoldable pub own_lines_at : ℕ → List ℕ → List ℕ
own_lines_at level g =
    number_line level_name level ++ text_line event_name (codes_at (drop (text_place g) g)) ++ link_line (get_or g 2 0) (link_at g)

unfoldable pub event_lines_at : (ℕ → List ℕ) → ℕ → List ℕ → List ℕ
event_lines_at follow level g = own_lines_at level g ++ behind follow (eqb (get_or g 2 0) to_menu) (link_at g)

-- those of the k events at the front of g
unfoldable pub events_lines_at : (ℕ → List ℕ) → ℕ → ℕ → List ℕ → List ℕ
events_lines_at follow level zero g = []
events_lines_at follow level (suc k) g = event_lines_at follow level g ++ events_lines_at follow level k (drop (event_length g) g)

-- of a whole form: the place of its header, and that of its first event
abbrev pub header_place : List ℕ → ℕ
header_place f = opening + 3 * get_or f 7 0

abbrev pub events_place : List ℕ → ℕ
events_place f = header_place f + string_length (drop (header_place f) f)

unfoldable pub head_lines_at : ℕ → ℕ → List ℕ → List ℕ
head_lines_at level number f =
    number_line level_name level ++ number_line menu_name number ++ text_line header_name (codes_at (drop (header_place f) f))

-- where there is a menu, f stands for the first
pub data Held : List Menu → List ℕ → Bool → Type 0 where
  none : {f : List ℕ} → Held [] f false
  first : {m : Menu} {ms : List Menu} {f : List ℕ} → menu_in f ≡ m → Held (m ∷ ms) f true

-- the menus with a number: in a list of records, or on a shelf
abbrev pub menus_from : Source → List ℕ → List ℕ → ℕ → List Menu
menus_from (Records application) list heads number = menus_of application number (blocks list)
menus_from Shelf list heads number = kept_menus heads list number

-- ---- bounds

-- no lent slice has more bytes
abbrev pub room_most : ℕ
room_most = 9223372036854775808

-- what a line of a number, a line of a string, and the lines of an event or a head take at most; so far does a walk get past the room
abbrev pub number_most : ℕ
number_most = 60

abbrev pub text_most : ℕ
text_most = 300

abbrev pub beyond : ℕ
beyond = 400

-- the bytes of an event, and the last place of a form at which one can begin
abbrev pub event_most : ℕ
event_most = 2556

abbrev pub place_most : ℕ
place_most = 700000

-- ---- text that may stop past the room

-- xs at q: where it ends within the room it is put whole, and where it doesn't the place after it is past the room
pub record Penned (room : ℕ) (out : List ℕ) (q : ℕ) (xs out' : List ℕ) (q' : ℕ) : Type 0 where
  pub done : q + length xs ≤ room → Put out q xs out' q'
  pub past : room < q + length xs → room < q'

-- ---- one record

-- whether a record is accepted as a menu with this number; where it is, f stands for it
pub record Judged (application number : ℕ) (rec f : List ℕ) (r : Bool) : Type 0 where
  pub says : r ≡ both (holding (read_rules application rec)) (eqb (menu_read (drop head_length rec)).block number)
  pub stands : r ≡ true → menu_in f ≡ menu_read (drop head_length rec)
