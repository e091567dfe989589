-- Blocks that go as records: block_size counts the raw bytes (SCOPE 9.7).
use Rattle.std.specs.Prelude.{◌≡◌, length}
use Rattle.blocks.specs.Block.{Block, size_of}

-- a block has as many raw bytes as its 16 bits say
abbrev pub Sized : Block → Type 0
Sized b = size_of b.head ≡ length b.raw
