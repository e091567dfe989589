-- A block, the record that carries it, and a list of records.
use Rattle.std.specs.Prelude.{Bool, List, [], ◌∷◌, ◌++◌, map, ℕ, zero, suc, ◌+◌, ◌*◌, ◌/◌, ◌%◌, eqb, leb, length, get_or, take, drop}
use Rattle.laws.specs.Pick.{pick, both, either}
use Rattle.octet.specs.Decoding.{nib}
use Rattle.fields.specs.Fields.{Field}

-- a block: its 16 bits; how many of its start and header bytes came other than as the image of their nibble (its part, SCOPE 19.3); a
-- second byte, 1 where its bytes span pages (SCOPE 26.1); and its raw bytes
pub record Block : Type 0 where
  pub head : ℕ
  pub part : ℕ
  pub second : ℕ
  pub raw : List ℕ

-- table 5, the Overall Data Header: application_id, and block_size, which counts the raw bytes (SCOPE 9.7)
abbrev pub header : ℕ → ℕ → List Field
header application size = (5, application) ∷ (11, size) ∷ []

-- the two as a block's 16 bits hold them: `headed` and `header_of` (proofs/Framed) tie them to table 5
abbrev pub application_of : ℕ → ℕ
application_of head = head % 32

abbrev pub size_of : ℕ → ℕ
size_of head = head / 32

-- how many bytes of a record stand before the raw bytes
abbrev pub head_length : ℕ
head_length = 4

-- a block's record: the low and the high byte of its 16 bits, its part, its second byte, then its raw bytes (SCOPE 10.3)
abbrev pub record_of : Block → List ℕ
record_of b = b.head % 256 ∷ b.head / 256 ∷ b.part ∷ b.second ∷ b.raw

-- the records of a list of blocks, one after the other
unfoldable pub records_of : List Block → List ℕ
records_of [] = []
records_of (b ∷ bs) = record_of b ++ records_of bs

-- the 16 bits that l begins with
abbrev pub head_of : List ℕ → ℕ
head_of l = get_or l 0 0 + 256 * get_or l 1 0

-- the part and the second byte of the record that l begins with
abbrev pub part_of : List ℕ → ℕ
part_of l = get_or l 2 0

abbrev pub second_of : List ℕ → ℕ
second_of l = get_or l 3 0

-- what the raw bytes of the record that l is decode to
unfoldable pub nibbles_of : List ℕ → List ℕ
nibbles_of l = map nib (drop head_length l)

-- how many bytes the record is long that l begins with, going by its 16 bits
abbrev pub record_length : List ℕ → ℕ
record_length l = head_length + size_of (head_of l)

-- l begins with a whole record
abbrev pub begins : List ℕ → Bool
begins l = both (leb head_length (length l)) (leb (record_length l) (length l))

-- the block of the record that l begins with
abbrev pub block_of : List ℕ → Block
block_of l = record {
  head = head_of l;
  part = part_of l;
  second = second_of l;
  raw = take (size_of (head_of l)) (drop head_length l);
}

-- l is a list of whole records; the number bounds how many are tried, and the length of l is enough
unfoldable pub whole_within : ℕ → List ℕ → Bool
whole_within zero l = eqb (length l) 0
whole_within (suc f) l = either (eqb (length l) 0) (both (begins l) (whole_within f (drop (record_length l) l)))

abbrev pub whole : List ℕ → Bool
whole l = whole_within (length l) l

-- the blocks of a list of records, up to the first that isn't whole
unfoldable pub blocks_within : ℕ → List ℕ → List Block
blocks_within zero l = []
blocks_within (suc f) l = pick (begins l) (block_of l ∷ blocks_within f (drop (record_length l) l)) []

abbrev pub blocks : List ℕ → List Block
blocks l = blocks_within (length l) l
