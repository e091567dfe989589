-- What only private calls cite; nothing here needs to be believed. What is measured and what is written, page by page.
use Rattle.std.specs.Prelude.{Option, Some, None, List, ◌∷◌, ℕ, ◌+◌, ◌*◌, ◌/◌, length}
use Rattle.laws.specs.Pick.{pick}
use Rattle.blocks.specs.Block.{whole, blocks}
use Rattle.packet.specs.declared.Setting.{Setting}
use Rattle.packet.specs.Packet.{packet_length, packet_zero}
use Rattle.symbols.specs.Stream.{Symbol, cell, stream_of}
use Rattle.writer.specs.Cutting.{data_packets, pages, joined}

-- a list of whole records in cells; none where it isn't one
abbrev pub measure_of : List ℕ → Option ℕ
measure_of l = pick (whole l) (Some (length (stream_of (blocks l)) / cell)) None

-- a page of k packets and its packet 0
abbrev pub page_of : Setting → ℕ → ℕ → List Symbol → List (List ℕ)
page_of s k index ss = packet_zero s index k ∷ data_packets s k 1 ss

-- how many bytes it has
abbrev pub page_length : ℕ → ℕ
page_length k = packet_length * (k + 1)

-- the bytes of so many pages from the first record on
abbrev pub pages_bytes : Setting → ℕ → ℕ → ℕ → List ℕ → List ℕ
pages_bytes s index k count l = joined (pages s k count index (stream_of (blocks l)))
