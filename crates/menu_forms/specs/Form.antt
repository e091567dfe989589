-- A menu in lent bytes, the NI form (SCOPE 23.5): 3, copyright, block number low, high, header_size, message_size, message_attribute, number of
-- descriptors, number of events; the descriptors; the header's string; each event: link low, high, link type, number of attributes, the
-- attributes, its string. A string: number of escapes, length, the escapes, the codes.
use Rattle.std.specs.Prelude.{List, [], ◌∷◌, ◌++◌, ℕ, zero, suc, ◌+◌, ◌*◌, ◌/◌, ◌%◌, length, get_or, drop}
use Rattle.fields.specs.Fields.{whole}
unfoldable pub use Rattle.codecs.specs.Rows.{codes_in}
use Rattle.menu_forms.specs.Rows.{each, in_row}
use Rattle.menu_forms.specs.Menus.{Descriptor, Escape, Text, Attribute, Event, Menu, NI, info_bytes}

-- k bytes of a number, the highest first
unfoldable pub high_first : ℕ → ℕ → List ℕ
high_first zero n = []
high_first (suc k) n = high_first k (n / 256) ++ n % 256 ∷ []

abbrev pub descriptor_form : Descriptor → List ℕ
descriptor_form d = d.which ∷ d.id ∷ d.eval ∷ []

abbrev pub escape_form : Escape → List ℕ
escape_form e = e.position % 256 ∷ e.position / 256 ∷ e.mode ∷ e.content ∷ []

abbrev pub attribute_form : Attribute → List ℕ
attribute_form a = a.kind ∷ high_first (info_bytes a.kind) a.info

unfoldable pub text_form : Text → List ℕ
text_form t = length t.escapes ∷ length t.codes ∷ each escape_form t.escapes ++ t.codes

unfoldable pub event_form : Event → List ℕ
event_form e =
    e.link % 256
    ∷ e.link / 256
    ∷ e.link_type
    ∷ length e.attributes
    ∷ each attribute_form e.attributes ++ text_form e.text

-- the nine bytes before the descriptors
abbrev pub opening : ℕ
opening = 9

abbrev pub opening_of : Menu → List ℕ
opening_of m =
    NI
    ∷ m.copyright
    ∷ m.block % 256
    ∷ m.block / 256
    ∷ m.header_size
    ∷ m.message_size
    ∷ m.message
    ∷ length m.descriptors
    ∷ length m.events
    ∷ []

unfoldable pub form : Menu → List ℕ
form m =
    opening_of m ++ (each descriptor_form m.descriptors ++ (text_form m.header ++ each event_form m.events))

-- ---- back: the menu that a form stands for. Past its end a form reads as zeros

-- the number of k bytes, the highest first
unfoldable pub number_in : ℕ → List ℕ → ℕ
number_in zero f = 0
number_in (suc k) f = number_in k f * 256 + get_or f k 0 % 256

abbrev pub descriptor_in : List ℕ → Descriptor
descriptor_in f = record { which = get_or f 0 0; id = get_or f 1 0; eval = get_or f 2 0 }

abbrev pub escape_in : List ℕ → Escape
escape_in f = record { position = whole 8 (get_or f 0 0 ∷ get_or f 1 0 ∷ []); mode = get_or f 2 0; content = get_or f 3 0 }

abbrev pub attribute_in : List ℕ → Attribute
attribute_in f = record { kind = get_or f 0 0; info = number_in (info_bytes (get_or f 0 0)) (drop 1 f) }

unfoldable pub text_in : List ℕ → Text
text_in f =
    let escapes = in_row escape_form escape_in (get_or f 0 0) (drop 2 f) in
    record { escapes = escapes; codes = codes_in (get_or f 1 0) (drop (2 + length (each escape_form escapes)) f) }

unfoldable pub event_in : List ℕ → Event
event_in f =
    let attributes = in_row attribute_form attribute_in (get_or f 3 0) (drop 4 f) in
    record {
      link = whole 8 (get_or f 0 0 ∷ get_or f 1 0 ∷ []);
      link_type = get_or f 2 0;
      attributes = attributes;
      text = text_in (drop (4 + length (each attribute_form attributes)) f);
    }

unfoldable pub menu_in : List ℕ → Menu
menu_in f =
    let descriptors = in_row descriptor_form descriptor_in (get_or f 7 0) (drop opening f) in
    let behind = drop (opening + length (each descriptor_form descriptors)) f in
    let header = text_in behind in
    record {
      copyright = get_or f 1 0;
      block = whole 8 (get_or f 2 0 ∷ get_or f 3 0 ∷ []);
      header_size = get_or f 4 0;
      message_size = get_or f 5 0;
      message = get_or f 6 0;
      descriptors = descriptors;
      header = header;
      events = in_row event_form event_in (get_or f 8 0) (drop (length (text_form header)) behind);
    }
