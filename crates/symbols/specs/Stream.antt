-- What is sent of a list of blocks, one symbol a byte: each start at the next byte 1 + 3 × p, and filler up to there (SCOPE 11.1).
-- 39 bytes follow a packet's pointer and 39 is 13 times 3, so the starts tile the stream in cells of three bytes.
use Rattle.std.specs.Prelude.{List, [], ◌∷◌, ◌++◌, map, ℕ, zero, suc, ◌*◌, ◌/◌, ◌%◌, length, replicate}
use Rattle.octet.specs.Image.{image}
use Rattle.blocks.specs.Block.{Block}

abbrev pub cell : ℕ
cell = 3

-- the bytes after a pointer: thirteen cells
abbrev pub per_packet : ℕ
per_packet = 13 * cell

-- a byte of the stream: a block's start, a nibble of its 16 bits, one of its raw bytes, or filler
pub data Symbol : Type 0 where
  start : Symbol
  fill : Symbol
  bits : ℕ → Symbol
  raw : ℕ → Symbol

-- a start is sent as nibble C (SCOPE 9.7), filler as nibble 3 (SCOPE 9.5); a raw byte goes as it is
abbrev pub byte_of : Symbol → ℕ
byte_of start = image 12
byte_of fill = image 3
byte_of (bits n) = image n
byte_of (raw b) = b

-- filler that makes n bytes whole cells
abbrev pub fill_after : ℕ → List Symbol
fill_after n = replicate (n * 2 % cell) fill

-- a block: its start, the four nibbles of its 16 bits from the lowest up, its raw bytes (SCOPE 9.7)
unfoldable pub symbols : Block → List Symbol
symbols b =
    start ∷ bits (b.head % 16) ∷ bits (b.head / 16 % 16) ∷ bits (b.head / 16 / 16 % 16) ∷ bits (b.head / 16 / 16 / 16 % 16)
    ∷ map raw b.raw

-- a block in whole cells
unfoldable pub cells_of : Block → List Symbol
cells_of b = symbols b ++ fill_after (length (symbols b))

unfoldable pub stream_of : List Block → List Symbol
stream_of [] = []
stream_of (b ∷ bs) = cells_of b ++ stream_of bs

-- the next n symbols, filler where the stream has ended
unfoldable pub grab : ℕ → List Symbol → List Symbol
grab zero ss = []
grab (suc n) [] = fill ∷ grab n []
grab (suc n) (s ∷ ss) = s ∷ grab n ss

-- how many symbols stand before the first start
unfoldable pub before_start : List Symbol → ℕ
before_start [] = 0
before_start (start ∷ ss) = 0
before_start (fill ∷ ss) = suc (before_start ss)
before_start (bits n ∷ ss) = suc (before_start ss)
before_start (raw b ∷ ss) = suc (before_start ss)

-- a packet's pointer: the cell of its first start; where there is none, all thirteen stand before it (SCOPE 11.5)
abbrev pub pointer_of : List Symbol → ℕ
pointer_of ss = before_start ss / cell
