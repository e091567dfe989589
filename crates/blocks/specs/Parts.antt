-- The two bytes behind a record's 16 bits: its part, which counts among its start and the four bytes of its header, and its second byte
-- (SCOPE 19.3, 26.1); and the count of mended bytes, which the part is of.
use Rattle.std.specs.Prelude.{◌≡◌, Bool, true, List, ℕ, ◌+◌, leb, drop}
use Rattle.laws.specs.Pick.{both}
use Rattle.octet.specs.Hearing.{harms}
use Rattle.blocks.specs.Block.{Block, head_length, part_of, second_of}

-- a start and the four bytes of its header
abbrev pub part_most : ℕ
part_most = 5

-- the two bytes are in range: a part of at most that, and 0 or 1 (SCOPE 19.4, 26.3)
abbrev pub ranged : ℕ → ℕ → Bool
ranged part second = both (leb part part_most) (leb second 1)

-- those of a record are
abbrev pub InRange : List ℕ → Type 0
InRange r = ranged (part_of r) (second_of r) ≡ true

-- and those of a block
abbrev pub Parted : Block → Type 0
Parted b = ranged b.part b.second ≡ true

-- the count of mended bytes of a record's block: how many of its start and header bytes were, which its part says, and how many of its
-- raw bytes differ from the image of their nibble (SCOPE 19.5)
unfoldable pub mended_in : List ℕ → ℕ
mended_in r = part_of r + harms (drop head_length r)
