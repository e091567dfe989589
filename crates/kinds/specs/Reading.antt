-- Reading a block of a kind: its rules in the order of SCOPE 3.6, 19.4, 22.3 and 23.6, what the block carries, and the count of mended
-- bytes.
use Rattle.std.specs.Prelude.{Bool, List, [], ◌∷◌, ◌++◌, map, ℕ, ◌+◌, ◌*◌, ◌%◌, min, max, eqb, length, take, drop}
use Rattle.laws.specs.Pick.{pick, both, either}
use Rattle.answer.specs.Rules.{Rule, rule, judged}
use Rattle.octet.specs.Decoding.{nib}
use Rattle.octet.specs.Hearing.{harms}
use Rattle.parity.specs.Parity.{odds}
use Rattle.blocks.specs.Block.{head_length, head_of, size_of, part_of}
use Rattle.fields.specs.Fields.{whole}
use Rattle.blocks.specs.Sums.{checksum, sound}
use Rattle.blocks.specs.Framing.{framing}
use Rattle.blocks.specs.Outcome.{Outcome, accepted, refused}
use Rattle.kinds.specs.Front.{Front, front}
use Rattle.kinds.specs.Kind.{Kind, Content, Sent, content_of, format, control, size}

-- what control data opens with, by its nibbles; past their end it reads as zeros
unfoldable pub front_in : List ℕ → Front
front_in ns = front.read (whole 4 ns) []

-- the code of a string byte
abbrev pub code_of : ℕ → ℕ
code_of b = b % 128

-- with strings the control bytes of a block are the first twice its control size, by its first eight bytes, and at least those (SCOPE 23.4)
abbrev pub control_length : List ℕ → ℕ
control_length raw = max 8 (min (2 * (front_in (map nib (take 8 raw))).control) (length raw))

-- the control bytes of a block's raw bytes: without strings all of them
abbrev pub control_part : Bool → List ℕ → List ℕ
control_part spoken raw = pick spoken (take (control_length raw) raw) raw

-- all bytes after them are string bytes
abbrev pub string_part : Bool → List ℕ → List ℕ
string_part spoken raw = pick spoken (drop (control_length raw) raw) []

-- one of two datatype_ids
abbrev pub one_of : ℕ → ℕ → ℕ → Bool
one_of first second kind = either (eqb kind first) (eqb kind second)

-- 10 in its first eight bytes, 12 for kind and access, 13 for an odd size where there are no strings: what can be said of a block before it
-- is read whole
unfoldable pub front_rules : (ℕ → Bool) → Bool → ℕ → List ℕ → List Rule
front_rules asked spoken block_size ns =
    rule (eqb (sound (take 8 ns)) 8) 10 (head_length + sound (take 8 ns))
    ∷ rule (both (asked (front_in ns).kind) (eqb (front_in ns).access 0)) 12 0
    ∷ rule (either spoken (eqb (block_size % 2) 0)) 13 0
    ∷ []

-- 10 in any other control byte, 23 where a string byte has an even number of ones, 11 for the sum
unfoldable pub whole_rules : ℕ → List ℕ → List ℕ → List Rule
whole_rules head ns strings =
    rule (eqb (sound ns) (length ns)) 10 (head_length + sound ns)
    ∷ rule (eqb (odds strings) (length strings)) 23 (head_length + length ns + odds strings)
    ∷ rule (eqb (front_in ns).checksum (checksum head ns)) 11 0
    ∷ []

-- the same of a block's raw bytes
abbrev pub body_rules : (ℕ → Bool) → Bool → ℕ → List ℕ → List Rule
body_rules asked spoken head raw =
    let ns = map nib (control_part spoken raw) in
    front_rules asked spoken (size_of head) ns ++ whole_rules head ns (string_part spoken raw)

-- the rules up to the checksum, which hang on nothing but the datatype_ids that are asked for and on whether strings follow
abbrev pub sum_rules : (ℕ → Bool) → Bool → ℕ → List ℕ → List Rule
sum_rules asked spoken application r = framing application r ++ body_rules asked spoken (head_of r) (drop head_length r)

-- the count of mended bytes: the part, and the control bytes that aren't images; string bytes don't count (SCOPE 19.5, 23.6)
unfoldable pub mended_of : Bool → List ℕ → ℕ
mended_of spoken r = part_of r + harms (control_part spoken (drop head_length r))

module _ {B : Type 0} (k : Kind B) where
  -- what nibbles and codes carry; past their end both read as zeros
  unfoldable pub sent_in : List ℕ → List ℕ → Sent B
  sent_in ns codes = (format k).read (whole 4 ns) codes

  -- what control bytes and string bytes carry
  abbrev pub carried_by : List ℕ → List ℕ → Sent B
  carried_by bytes strings = sent_in (map nib bytes) (map code_of strings)

  -- what raw bytes carry
  abbrev pub carried : List ℕ → Sent B
  carried raw = carried_by (control_part k.spoken raw) (string_part k.spoken raw)

  abbrev pub content_in : List ℕ → Content B
  content_in raw = content_of (carried raw)

  -- the kind's own rule, then 14: both sizes are those of what the block carries
  unfoldable pub length_rules : ℕ → Sent B → List Rule
  length_rules block_size s =
      rule (k.fine block_size s.1) k.number 0
      ∷ rule (both (eqb s.0.control (control k (content_of s))) (eqb block_size (size k (content_of s)))) 14 0
      ∷ []

  abbrev pub read_rules : ℕ → List ℕ → List Rule
  read_rules application r =
      sum_rules k.asked k.spoken application r ++ length_rules (size_of (head_of r)) (carried (drop head_length r))

  -- what reading makes of a record, room apart, by the value that a content has
  unfoldable pub read_as : {A : Type 0} → (Content B → A) → ℕ → List ℕ → Outcome A
  read_as value application r =
      judged refused (read_rules application r) (accepted (value (content_in (drop head_length r))) (mended_of k.spoken r))
