-- A menu as a value, and the format that table 19 has for it (SCOPE 23.1, 23.2).
use Rattle.std.specs.Prelude.{Bool, true, List, ℕ, ◌+◌, ◌*◌, ◌/◌, ◌%◌, eqb, ltb, length, take}
use Rattle.laws.specs.Pick.{pick}
use Rattle.fields.specs.Fields.{Field, width}
use Rattle.codecs.specs.Codec.{Codec, number, filling, codes, then, row, seen, counted}
use Rattle.kinds.specs.Kind.{Kind, Content, fields as kind_fields, strings as kind_strings, fits as kind_fits}
use Rattle.kinds.specs.Reading.{one_of}
unfoldable pub use Rattle.kinds.specs.Kind.{sevens}

-- descriptor_type, descriptor_id, descriptor_eval
pub record Descriptor : Type 0 where
  pub which : ℕ
  pub id : ℕ
  pub eval : ℕ

-- insert_pos, escape_mode, escape_data (table 32)
pub record Escape : Type 0 where
  pub position : ℕ
  pub mode : ℕ
  pub content : ℕ

-- a string with what is to be changed in it (11.12.1)
pub record Text : Type 0 where
  pub escapes : List Escape
  pub codes : List ℕ

-- kind_of_attribute, attribute_info (table 40)
pub record Attribute : Type 0 where
  pub kind : ℕ
  pub info : ℕ

-- a line of a menu: next_link_id, next_link_type, what is asked for, and its string
pub record Event : Type 0 where
  pub link : ℕ
  pub link_type : ℕ
  pub attributes : List Attribute
  pub text : Text

pub record Menu : Type 0 where
  pub copyright : ℕ
  pub block : ℕ
  pub header_size : ℕ
  pub message_size : ℕ
  pub message : ℕ
  pub descriptors : List Descriptor
  pub header : Text
  pub events : List Event

-- the datatype_id of Navigation Information (11.12.3)
abbrev pub NI : ℕ
NI = 3

-- table 41: the bytes of attribute_info
unfoldable pub info_bytes : ℕ → ℕ
info_bytes kind = pick (ltb kind 128) 1 (pick (ltb kind 192) 2 (pick (ltb kind 224) 3 4))

-- ---- table 19, part by part

-- three numbers of these widths
abbrev pub three : ℕ → ℕ → ℕ → Codec (ℕ × (ℕ × ℕ))
three u v w = then (number u) (λ a. then (number v) (λ b. number w))

-- descriptor_type, descriptor_id, descriptor_eval
abbrev pub descriptor_format : Codec Descriptor
descriptor_format = seen (λ d. (d.which, (d.id, d.eval))) (λ r. record { which = r.0; id = r.1.0; eval = r.1.1 }) (three 6 6 8)

-- insert_pos, escape_mode, escape_data
abbrev pub escape_format : Codec Escape
escape_format = seen (λ e. (e.position, (e.mode, e.content))) (λ r. record { position = r.0; mode = r.1.0; content = r.1.1 }) (three 10 6 8)

-- kind_of_attribute, attribute_info
abbrev pub attribute_format : Codec Attribute
attribute_format = seen (λ a. (a.kind, a.info)) (λ r. record { kind = r.0; info = r.1 }) (then (number 8) (λ kind. number (8 * info_bytes kind)))

-- a string: the number of its escape sequences, these, its length; its codes
unfoldable pub text_format : Codec Text
text_format =
    seen (λ t. (t.escapes, (length t.codes, t.codes))) (λ r. record { escapes = r.0; codes = r.1.1 })
    (then (counted 8 escape_format) (λ escapes. then (number 8) codes))

-- next_link_id, next_link_type, the number of attributes, these, the string
unfoldable pub event_format : Codec Event
event_format =
    seen (λ e. (e.link, (e.link_type, (e.attributes, e.text))))
    (λ r. record { link = r.0; link_type = r.1.0; attributes = r.1.1.0; text = r.1.1.1 })
    (then (number 16) (λ link. then (number 4) (λ type. then (counted 4 attribute_format) (λ attributes. text_format))))

-- fill_up_2 stands where the number of descriptors is even: with it they end on a whole byte
unfoldable pub fill_up : ℕ → Codec ℕ
fill_up count = filling (eqb (count % 2) 0) 4

-- the bits that are no part of a menu: reserved_for_future_use, fill_up_1 and fill_up_2. Written ones are 0 (SCOPE 23.3)
pub record Spare : Type 0 where
  pub reserved : ℕ
  pub first : ℕ
  pub second : ℕ

abbrev pub zeros : Spare
zeros = record { reserved = 0; first = 0; second = 0 }

-- what stands behind the opening fields: a menu's values but its copyright bit, with fill_up_1 and fill_up_2
pub record Body : Type 0 where
  pub block : ℕ
  pub header_size : ℕ
  pub message_size : ℕ
  pub first : ℕ
  pub descriptors : List Descriptor
  pub second : ℕ
  pub header : Text
  pub message : ℕ
  pub events : List Event

-- its values in the order in which they stand, with the number of events: up to fill_up_1, and from there on
abbrev pub Lead : Type 0 → Type 0
Lead A = ℕ × (ℕ × (ℕ × (ℕ × (ℕ × A))))

abbrev pub Rest : Type 0
Rest = List Descriptor × (ℕ × (Text × (ℕ × List Event)))

abbrev pub Ordered : Type 0
Ordered = Lead Rest

abbrev pub ordered : Body → Ordered
ordered b =
    let rest : Rest = (b.descriptors, (b.second, (b.header, (b.message, b.events)))) in
    (b.block, (b.header_size, (length b.events, (b.message_size, (b.first, rest)))))

abbrev pub named : Ordered → Body
named (block, (header_size, (count, (message_size, (first, (descriptors, (second, (header, (message, events))))))))) =
    record {
      block = block;
      header_size = header_size;
      message_size = message_size;
      first = first;
      descriptors = descriptors;
      second = second;
      header = header;
      message = message;
      events = events;
    }

-- table 19 behind the opening fields (SCOPE 23.1, 23.2): block_no, header_size, the number of events, message_size, fill_up_1, and what
-- follows
abbrev pub lead : {A : Type 0} → (ℕ → Codec A) → Codec (Lead A)
lead follows =
    then (number 16) (λ block. then (number 2) (λ header_size. then (number 4) (λ events. then (number 3) (λ message_size.
    then (number 1) (λ first. follows events)))))

-- the number of descriptors, these, fill_up_2, the header's string, message_attribute, the events. message_attribute, of which table 19
-- prints no category, is control data. Behind it all stand the codes of the strings, in their order
abbrev pub rest : ℕ → Codec Rest
rest events =
    then (counted 6 descriptor_format) (λ descriptors. then (fill_up (length descriptors)) (λ second. then text_format (λ header.
    then (number 8) (λ message. row event_format events))))

abbrev pub behind : Codec Body
behind = seen ordered named (lead rest)

-- Navigation Information: strings follow its control data, and header_size is 0, 1 or 2, or it is 14 (SCOPE 23.6)
abbrev pub navigation : Kind Body
navigation =
    record {
      asked = one_of NI NI;
      spoken = true;
      behind = λ kind. behind;
      fine = λ block_size b. ltb b.header_size 3;
      number = 14;
    }

-- a menu as it is sent, with any spare bits; and the menu that is sent
abbrev pub content : Spare → Menu → Content Body
content spare m =
    record {
      kind = NI;
      copyright = m.copyright;
      reserved = spare.reserved;
      body =
          record {
            block = m.block;
            header_size = m.header_size;
            message_size = m.message_size;
            first = spare.first;
            descriptors = m.descriptors;
            second = spare.second;
            header = m.header;
            message = m.message;
            events = m.events;
          };
    }

abbrev pub menu_sent : Content Body → Menu
menu_sent c =
    let b = c.body in
    record {
      copyright = c.copyright;
      block = b.block;
      header_size = b.header_size;
      message_size = b.message_size;
      message = b.message;
      descriptors = b.descriptors;
      header = b.header;
      events = b.events;
    }

-- the fields that are laid for it, and those of its parts
unfoldable pub fields : ℕ → ℕ → Spare → Menu → List Field
fields checksum control spare m = kind_fields navigation checksum control (content spare m)

-- those up to the descriptors
abbrev pub opening_fields : ℕ → ℕ → Spare → Menu → List Field
opening_fields checksum control spare m = take 12 (kind_fields navigation checksum control (content spare m))

abbrev pub descriptor_fields : Descriptor → List Field
descriptor_fields d = descriptor_format.fields d

abbrev pub escape_fields : Escape → List Field
escape_fields e = escape_format.fields e

abbrev pub attribute_fields : Attribute → List Field
attribute_fields a = attribute_format.fields a

abbrev pub text_fields : Text → List Field
text_fields t = text_format.fields t

abbrev pub event_fields : Event → List Field
event_fields e = event_format.fields e

abbrev pub fill_fields : ℕ → ℕ → List Field
fill_fields count filling = (fill_up count).fields filling

-- the codes of all strings: the header's, then the events' in their order
unfoldable pub strings : Menu → List ℕ
strings m = kind_strings navigation (content zeros m)

abbrev pub codes_of : Event → List ℕ
codes_of e = e.text.codes

-- control_block_size, as any kind has it: its fields end on a whole byte
abbrev pub control : Menu → ℕ
control m = (width (fields 0 0 zeros m) + 7) / 8

-- block_size: two protected bytes for eight bits, and one byte for each code (SCOPE 23.4)
abbrev pub size : Menu → ℕ
size m = 2 * control m + length (strings m)

-- a menu that can be sent: its values fit their fields, header_size is 0, 1 or 2, codes have seven bits, and block_size fits its eleven
unfoldable pub fits : Menu → Bool
fits m = kind_fits navigation (content zeros m)
