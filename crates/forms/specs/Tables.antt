-- A TI or LI table as a value, and the format that tables 15 and 17 have for it.
use Rattle.std.specs.Prelude.{Bool, false, List, [], ℕ, ◌+◌, ◌*◌, ◌/◌, ◌-◌, ltb, length}
use Rattle.laws.specs.Pick.{either}
use Rattle.fields.specs.Fields.{Field, width}
use Rattle.codecs.specs.Rows.{each}
use Rattle.codecs.specs.Codec.{Codec, number, numbers, then, row_whole, seen, counted}
use Rattle.kinds.specs.Kind.{Kind, Content, Sent, format, fields as kind_fields, fits as kind_fits}
pub use Rattle.forms.specs.Kinds.{TI, LI, known, numbered}
unfoldable pub use Rattle.forms.specs.Kinds.{per}

-- a set of languages, or of languages with a page each: its descriptor_id, and its words of 24 bits: language, page, language,
-- page .. in TI, languages in LI
pub record Descriptor : Type 0 where
  pub id : ℕ
  pub words : List ℕ

pub record Table : Type 0 where
  pub kind : ℕ
  pub copyright : ℕ
  pub block : ℕ
  pub network : ℕ
  pub descriptors : List Descriptor

-- subtt_no, language_no: how many entries these words make
abbrev pub entries : ℕ → List ℕ → ℕ
entries kind words = length words / per kind

-- a descriptor of tables 15 and 17, whose entries have `each` words: descriptor_id, the number of entries, the entries
abbrev pub descriptor : ℕ → Codec Descriptor
descriptor each =
    seen (λ d. (d.id, (length d.words / each, d.words))) (λ r. record { id = r.0; words = r.1.1 })
    (then (number 6) (λ id. then (number 4) (λ entries. numbers 24 (each * entries))))

-- what stands behind the opening fields: a table's values but its kind and its copyright bit
pub record Body : Type 0 where
  pub block : ℕ
  pub network : ℕ
  pub descriptors : List Descriptor

-- its values in the order in which they stand
abbrev pub Ordered : Type 0
Ordered = ℕ × (ℕ × List Descriptor)

abbrev pub ordered : Body → Ordered
ordered b = (b.block, (b.network, b.descriptors))

abbrev pub named : Ordered → Body
named (block, (network, descriptors)) = record { block = block; network = network; descriptors = descriptors }

-- tables 15 and 17 behind the opening fields (SCOPE 12.2, 12.3): block_no, netwop_no, the number of descriptors, the descriptors
abbrev pub behind : ℕ → Codec Body
behind kind = seen ordered named (then (number 16) (λ block. then (number 8) (λ network. counted 6 (descriptor (per kind)))))

-- a block of so many bytes is too short to hold a block number, or holds one of this edition
abbrev pub block_numbered : ℕ → ℕ → Bool
block_numbered block_size block = either (ltb block_size 12) (numbered block)

-- Subtitle and Language tables: no strings follow their control data, and their block number is one of this edition, or it is 22: by the
-- block's size, whatever its control size is (SCOPE 22.3)
abbrev pub tables : Kind Body
tables =
    record {
      asked = known;
      spoken = false;
      behind = behind;
      fine = λ block_size b. block_numbered block_size b.block;
      number = 22;
    }

-- a table as it is sent, with any reserved bit; and the table that is sent
abbrev pub content : ℕ → Table → Content Body
content reserved t =
    record {
      kind = t.kind;
      copyright = t.copyright;
      reserved = reserved;
      body = record { block = t.block; network = t.network; descriptors = t.descriptors };
    }

abbrev pub table_sent : Content Body → Table
table_sent c =
    let b = c.body in
    record { kind = c.kind; copyright = c.copyright; block = b.block; network = b.network; descriptors = b.descriptors }

-- what control data n carries: no strings follow it
abbrev pub sent_in : ℕ → Sent Body
sent_in n = (format tables).read n []

-- the fields that are laid for it, and those of its loops
unfoldable pub fields : ℕ → ℕ → ℕ → Table → List Field
fields checksum control reserved t = kind_fields tables checksum control (content reserved t)

unfoldable pub loops : ℕ → List Descriptor → List Field
loops kind ds = each (descriptor (per kind)).fields ds

-- how many bits these are
abbrev pub bits : Table → ℕ
bits t = width (fields 0 0 0 t)

-- control_block_size: in bytes of control bits, fill_up bits included (11.1.2; SCOPE 12.6)
abbrev pub control : Table → ℕ
control t = (bits t + 7) / 8

-- fill_up: none to seven bits, up to a whole byte (SCOPE 12.4)
abbrev pub fill : Table → ℕ
fill t = 8 * control t - bits t

-- block_size: eight bits go in two protected bytes (SCOPE 12.1, 12.6)
abbrev pub size : Table → ℕ
size t = 2 * control t

-- every entry is whole
unfoldable pub entire : ℕ → List Descriptor → Bool
entire kind ds = row_whole (descriptor (per kind)) ds

-- a table that can be sent: of a kind that is read, with a block number of this edition, its entries whole, and each value fitting its
-- field; what doesn't fit control_block_size is a table of more than 8,184 bits (SCOPE 2.1, number 15)
unfoldable pub fits : Table → Bool
fits t = kind_fits tables (content 0 t)
