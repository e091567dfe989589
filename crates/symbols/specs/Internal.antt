-- What only private calls cite; nothing here needs to be believed. How the writer goes along its stream, a symbol at a time.
use Rattle.std.specs.Prelude.{◌≡◌, Bool, true, false, List, ℕ, zero, suc, ◌-◌, ◌/◌, ◌%◌, ◌<◌, length, get_or, take, drop}
use Rattle.blocks.specs.Block.{Block, begins, block_of, blocks}
use Rattle.symbols.specs.declared.Pen.{Pen}
use Rattle.symbols.specs.declared.Sent.{Sent}
use Rattle.symbols.specs.Stream.{Symbol, start, fill, bits, raw, byte_of, cells_of, stream_of}

-- part i of the 16 bits, the lowest nibble first
unfoldable pub nibble_of : ℕ → ℕ → ℕ
nibble_of zero head = head % 16
nibble_of (suc i) head = nibble_of i (head / 16)

abbrev pub is_start : Symbol → Bool
is_start start = true
is_start fill = false
is_start (bits n) = false
is_start (raw b) = false

-- what is left of the stream of the records l where the writer stands
unfoldable pub rest_of : List ℕ → Pen → List Symbol
rest_of l pen = drop pen.sent (stream_of (blocks (drop pen.at l)))

-- the block of a record whose raw bytes are those from one place up to another; its part and its second byte aren't sent
abbrev pub block_at : List ℕ → ℕ → ℕ → ℕ → Block
block_at l head from next = record { head = head; part = 0; second = 0; raw = take (next - from) (drop from l) }

-- the writer stands before one of its record's symbols, where there is a record
pub record Within (l : List ℕ) (pen : Pen) : Type 0 where
  pub among : begins (drop pen.at l) ≡ true → pen.sent < length (cells_of (block_of (drop pen.at l)))

-- from one pen to another n symbols are sent
pub record Goes (l : List ℕ) (pen : Pen) (n : ℕ) (after : Pen) : Type 0 where
  pub rest : rest_of l after ≡ drop n (rest_of l pen)
  pub stands : Within l after

-- one symbol is sent: its byte, whether it is a start, and where the writer stands then
pub record Sends (l : List ℕ) (pen : Pen) (r : Sent) : Type 0 where
  pub its_byte : r.byte ≡ byte_of (get_or (rest_of l pen) 0 fill)
  pub its_start : r.starts ≡ is_start (get_or (rest_of l pen) 0 fill)
  pub goes : Goes l pen 1 r.pen
