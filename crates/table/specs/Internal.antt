-- What only private calls cite; nothing here needs to be believed. The fields that a block opens with, and how long a table and its form
-- can be, by its counts: four bits of entries, and a byte of descriptors.
use Rattle.std.specs.Prelude.{List, [], ◌∷◌, ◌++◌, ℕ, ◌+◌, ◌*◌, ◌%◌, eqb, length, take}
use Rattle.laws.specs.Pick.{both}
use Rattle.answer.specs.Rules.{Rule, rule}
use Rattle.blocks.specs.Block.{head_length, size_of}
use Rattle.blocks.specs.Sums.{checksum, sound}
use Rattle.fields.specs.Fields.{whole}
use Rattle.fields.specs.declared.Opening.{Opening}
use Rattle.kinds.specs.Kind.{Sent}
use Rattle.forms.specs.Tables.{Body, known, sent_in}
use Rattle.table.specs.Lengths.{length_rules}

-- what a block opens with, of what it carries
abbrev pub opening_by : Sent Body → Opening
opening_by s =
    record {
      checksum = s.0.checksum;
      control = s.0.control;
      kind = s.0.kind;
      access = s.0.access;
      copyright = s.0.copyright;
      block = s.1.block;
      network = s.1.network;
      count = length s.1.descriptors;
    }

-- the rules of a kind without strings behind the frame, by what the nibbles carry: the fields that a block opens with are taken once
unfoldable pub front_rules : ℕ → List ℕ → Sent Body → List Rule
front_rules block_size ns s =
    rule (eqb (sound (take 8 ns)) 8) 10 (head_length + sound (take 8 ns))
    ∷ rule (both (known s.0.kind) (eqb s.0.access 0)) 12 0
    ∷ rule (eqb (block_size % 2) 0) 13 0
    ∷ []

unfoldable pub whole_rules : ℕ → List ℕ → Sent Body → List Rule
whole_rules head ns s =
    rule (eqb (sound ns) (length ns)) 10 (head_length + sound ns)
    ∷ rule (eqb s.0.checksum (checksum head ns)) 11 0
    ∷ []

abbrev pub body_rules : ℕ → List ℕ → List Rule
body_rules head ns =
    let s = sent_in (whole 4 ns) in
    front_rules (size_of head) ns s ++ (whole_rules head ns s ++ length_rules (size_of head) s)

-- the bits of a descriptor: its id, its number of entries, and 15 entries of two words
abbrev pub descriptor_bits : ℕ
descriptor_bits = 10 + 24 * (2 * 15)

-- of a table: 255 descriptors behind its opening fields, as many as a byte counts
abbrev pub table_bits : ℕ
table_bits = 58 + 255 * descriptor_bits

-- the bytes of a descriptor in a form, and of the form
abbrev pub descriptor_bytes : ℕ
descriptor_bytes = 2 + 3 * (2 * 15)

abbrev pub form_bytes : ℕ
form_bytes = 6 + 255 * descriptor_bytes
