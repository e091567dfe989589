-- A block of a kind as it is sent, and the record that holds it: its head, its control data in protected bytes, its strings.
use Rattle.std.specs.Prelude.{◌≡◌, true, List, ◌++◌, map, ℕ, ◌*◌, ◌^◌, ◌<◌, take, drop}
use Rattle.octet.specs.Decoding.{nib}
use Rattle.octet.specs.Image.{image}
use Rattle.parity.specs.Parity.{letter}
use Rattle.blocks.specs.Block.{Block, header, head_length, head_of, record_of as carried}
use Rattle.fields.specs.Fields.{laid, parts}
use Rattle.blocks.specs.Sums.{checksum}
use Rattle.blocks.specs.Parts.{InRange}
use Rattle.kinds.specs.Kind.{Kind, Content, fields, control, fill, strings, size, fits}

module _ {B : Type 0} (k : Kind B) where
  -- the nibbles of control data, for any checksum and anything above its fields
  unfoldable pub nibbles : ℕ → ℕ → Content B → List ℕ
  nibbles sum filling c = parts 4 (2 * control k c) (laid (fields k sum (control k c) c) filling)

  -- the 16 bits of the head
  abbrev pub head_bits : ℕ → Content B → ℕ
  head_bits application c = laid (header application (size k c)) 0

  -- the checksum: over the head and the control data, the strings not counted (11.1.2; SCOPE 12.5, 23.4)
  unfoldable pub checksum_of : ℕ → ℕ → Content B → ℕ
  checksum_of application filling c = checksum (head_bits application c) (nibbles 0 filling c)

  -- a content's block, none of whose bytes is mended
  unfoldable pub block_with : ℕ → ℕ → Content B → Block
  block_with application filling c =
      record {
        head = head_bits application c;
        part = 0;
        second = 0;
        raw = map image (nibbles (checksum_of application filling c) filling c) ++ map letter (strings k c);
      }

  -- the record that carries it
  abbrev pub record_with : ℕ → ℕ → Content B → List ℕ
  record_with application filling c = carried (block_with application filling c)

  -- record r is exactly content c of this application, in clear, with these bits above its fields
  pub record Says (application : ℕ) (r : List ℕ) (c : Content B) (filling : ℕ) : Type 0 where
    pub within : application < 32
    pub sendable : fits k c ≡ true
    pub filled : filling < 2 ^ fill k c
    pub ranged : InRange r
    pub head : head_of r ≡ head_bits application c
    pub body : map nib (take (2 * control k c) (drop head_length r)) ≡ nibbles (checksum_of application filling c) filling c
    pub codes : drop (2 * control k c) (drop head_length r) ≡ map letter (strings k c)

  module _ {A : Type 0} (value : Content B → A) where
    -- record r is exactly the value v of this application, in clear: whatever the bits are that are no part of the value
    pub record Means (application : ℕ) (r : List ℕ) (v : A) : Type 0 where
      pub content : Content B
      pub filling : ℕ
      pub says : Says application r content filling
      pub meant : value content ≡ v
