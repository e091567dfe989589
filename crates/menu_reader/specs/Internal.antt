-- What only private calls cite; nothing here needs to be believed. The walk that spells a menu: where it goes, and what it writes.
use Rattle.std.specs.Prelude.{◌≡◌, List, [], ◌∷◌, map, ℕ, zero, suc, ◌+◌, ◌*◌, ◌/◌, ◌%◌, ◌≤◌, length, drop}
use Rattle.std.proofs.lemmas.List.Edits.{sets}
use Rattle.octet.specs.Decoding.{nib}
use Rattle.fields.specs.Fields.{width, field, whole}
use Rattle.menu_forms.specs.Rows.{each, in_row}
use Rattle.menu_forms.specs.Menus.{Descriptor, Escape, Text, Attribute, Event, Menu, NI, zeros, info_bytes, descriptor_fields, escape_fields, attribute_fields, text_fields, event_fields, fill_fields, fields, codes_of, strings}
use Rattle.menu_forms.specs.Form.{codes_in, descriptor_form, escape_form, attribute_form, text_form, event_form, form}
use Rattle.menu_forms.specs.Block.{in_nibbles}
use Rattle.kinds.specs.Reading.{code_of}
use Rattle.menu_reader.specs.declared.Spot.{Spot}
use Rattle.menu_reader.specs.declared.Loop.{Loop}
use Rattle.menu_reader.specs.declared.Loop.TheVariants.{Descriptors, Escapes, Attributes}

-- ---- the menu that control data and strings hold, found by going along them

-- the w bits from the place `at` on
abbrev pub bits_at : ℕ → ℕ → List ℕ → ℕ
bits_at at w ns = field at w (whole 4 ns)

abbrev pub descriptor_at : List ℕ → Descriptor
descriptor_at ns = record { which = bits_at 0 6 ns; id = bits_at 6 6 ns; eval = bits_at 12 8 ns }

abbrev pub escape_at : List ℕ → Escape
escape_at ns = record { position = bits_at 0 10 ns; mode = bits_at 10 6 ns; content = bits_at 16 8 ns }

abbrev pub attribute_at : List ℕ → Attribute
attribute_at ns = record { kind = bits_at 0 8 ns; info = bits_at 8 (8 * info_bytes (bits_at 0 8 ns)) ns }

-- what an entry takes of the nibbles
abbrev pub descriptor_nibbles : Descriptor → List ℕ
descriptor_nibbles d = in_nibbles (descriptor_fields d)

abbrev pub escape_nibbles : Escape → List ℕ
escape_nibbles e = in_nibbles (escape_fields e)

abbrev pub attribute_nibbles : Attribute → List ℕ
attribute_nibbles a = in_nibbles (attribute_fields a)

-- a string: its escape sequences and its length in the control data, its codes at the front of those left
unfoldable pub text_at : List ℕ → List ℕ → Text
text_at ns codes =
    let escapes = in_row escape_nibbles escape_at (bits_at 0 8 ns) (drop 2 ns) in
    let behind = drop (2 + length (each escape_nibbles escapes)) ns in
    record { escapes = escapes; codes = codes_in (bits_at 0 8 behind) codes }

unfoldable pub event_at : List ℕ → List ℕ → Event
event_at ns codes =
    let attributes = in_row attribute_nibbles attribute_at (bits_at 20 4 ns) (drop 6 ns) in
    record {
      link = bits_at 0 16 ns;
      link_type = bits_at 16 4 ns;
      attributes = attributes;
      text = text_at (drop (6 + length (each attribute_nibbles attributes)) ns) codes;
    }

-- the k events at the front of both
unfoldable pub events_at : ℕ → List ℕ → List ℕ → List Event
events_at zero ns codes = []
events_at (suc k) ns codes =
    let e = event_at ns codes in
    e ∷ events_at k (drop (length (in_nibbles (event_fields e))) ns) (drop (length (codes_of e)) codes)

-- each field at its place
unfoldable pub menu_at : List ℕ → List ℕ → Menu
menu_at ns codes =
    let count = bits_at 54 6 ns in
    let descriptors = in_row descriptor_nibbles descriptor_at count (drop 15 ns) in
    let behind = drop (15 + length (each descriptor_nibbles descriptors) + length (in_nibbles (fill_fields count 0))) ns in
    let header = text_at behind codes in
    let past = drop (length (in_nibbles (text_fields header))) behind in
    record {
      copyright = bits_at 26 1 ns;
      block = bits_at 28 16 ns;
      header_size = bits_at 44 2 ns;
      message_size = bits_at 50 3 ns;
      message = bits_at 0 8 past;
      descriptors = descriptors;
      header = header;
      events = events_at (bits_at 46 4 ns) (drop 2 past) (drop (length header.codes) codes);
    }

-- ---- entries in a row

-- the nibbles that the entry at the front of control data takes
abbrev pub entry_nibbles : Loop → List ℕ → ℕ
entry_nibbles Descriptors ns = length (descriptor_nibbles (descriptor_at ns))
entry_nibbles Escapes ns = length (escape_nibbles (escape_at ns))
entry_nibbles Attributes ns = length (attribute_nibbles (attribute_at ns))

-- its bytes in a form
abbrev pub entry_form : Loop → List ℕ → List ℕ
entry_form Descriptors ns = descriptor_form (descriptor_at ns)
entry_form Escapes ns = escape_form (escape_at ns)
entry_form Attributes ns = attribute_form (attribute_at ns)

-- the same of the k entries at the front
abbrev pub loop_nibbles : Loop → ℕ → List ℕ → ℕ
loop_nibbles Descriptors k ns = length (each descriptor_nibbles (in_row descriptor_nibbles descriptor_at k ns))
loop_nibbles Escapes k ns = length (each escape_nibbles (in_row escape_nibbles escape_at k ns))
loop_nibbles Attributes k ns = length (each attribute_nibbles (in_row attribute_nibbles attribute_at k ns))

abbrev pub loop_form : Loop → ℕ → List ℕ → List ℕ
loop_form Descriptors k ns = each descriptor_form (in_row descriptor_nibbles descriptor_at k ns)
loop_form Escapes k ns = each escape_form (in_row escape_nibbles escape_at k ns)
loop_form Attributes k ns = each attribute_form (in_row attribute_nibbles attribute_at k ns)

-- ---- where the walk stands

-- what control bytes and string bytes hold from here on
abbrev pub text_from : List ℕ → List ℕ → Spot → Text
text_from control strings s = text_at (drop s.at (map nib control)) (drop s.from (map code_of strings))

abbrev pub event_from : List ℕ → List ℕ → Spot → Event
event_from control strings s = event_at (drop s.at (map nib control)) (drop s.from (map code_of strings))

abbrev pub events_from : ℕ → List ℕ → List ℕ → Spot → List Event
events_from k control strings s = events_at k (drop s.at (map nib control)) (drop s.from (map code_of strings))

-- from s to r, past so many nibbles and so many codes, with these bytes of the form written
pub record Went (s r : Spot) (nibbles codes : ℕ) (bytes old new : List ℕ) : Type 0 where
  pub passes : r.at ≡ s.at + nibbles
  pub takes : r.from ≡ s.from + codes
  pub fills : r.to ≡ s.to + length bytes
  pub writes : new ≡ sets old s.to bytes

abbrev pub PutText : Spot → Spot → Text → List ℕ → List ℕ → Type 0
PutText s r t old new = Went s r (length (in_nibbles (text_fields t))) (length t.codes) (text_form t) old new

abbrev pub PutEvent : Spot → Spot → Event → List ℕ → List ℕ → Type 0
PutEvent s r e old new = Went s r (length (in_nibbles (event_fields e))) (length (codes_of e)) (event_form e) old new

abbrev pub PutEvents : Spot → Spot → List Event → List ℕ → List ℕ → Type 0
PutEvents s r es old new =
    Went s r (length (in_nibbles (each event_fields es))) (length (each codes_of es)) (each event_form es) old new

-- the nine bytes that a form opens with, by control data and its message
abbrev pub opening_bytes : List ℕ → ℕ → List ℕ
opening_bytes ns message =
    NI
    ∷ bits_at 26 1 ns
    ∷ bits_at 28 16 ns % 256
    ∷ bits_at 28 16 ns / 256
    ∷ bits_at 44 2 ns
    ∷ bits_at 50 3 ns
    ∷ message
    ∷ bits_at 54 6 ns
    ∷ bits_at 46 4 ns
    ∷ []

-- a menu, in_nibbles: the places behind it
pub record Spelled (r : Spot) (m : Menu) (old new : List ℕ) : Type 0 where
  pub passes : r.at * 4 ≡ width (fields 0 0 zeros m)
  pub takes : r.from ≡ length (strings m)
  pub fills : r.to ≡ length (form m)
  pub writes : new ≡ sets old 0 (form m)

-- ---- how far it goes

-- no place is further on than n
abbrev pub Below : ℕ → Spot → Type 0
Below n s = (s.at ≤ n) × (s.from ≤ n) × (s.to ≤ n)

-- r is at most so many nibbles, codes and bytes behind s
abbrev pub Within : Spot → Spot → ℕ → ℕ → ℕ → Type 0
Within s r nibbles codes bytes = (r.at ≤ s.at + nibbles) × (r.from ≤ s.from + codes) × (r.to ≤ s.to + bytes)
