-- What comes out of the calls of a reader of one stream, in terms of what the calls themselves say (`Rows`).
use Rattle.std.specs.Prelude.{Bool, List, ℕ}
use Rattle.blocks.specs.Block.{Block, blocks}
use Rattle.packet.specs.declared.Setting.{Setting}
use Rattle.walk.specs.Reading.{room}
use Rattle.state.specs.declared.Reader.{Reader}
use Rattle.state.specs.Acting.{State}
pub use Rattle.reader.specs.Values.{number_of, offset_of, count_of, written_of, dropped_of, number_of_all, offset_of_all, packets_of_all, count_of_all, written_of_all, dropped_of_all}
use Rattle.reader.specs.Feeding.{tuned_to}
use Rattle.claims.specs.Rows.{AsCalls as Rows-as-AsCalls, Call as Rows-as-Call, comes_out as rows_comes_out, drops as rows_drops, leaves as rows_leaves, Feeder}
unfoldable pub use Rattle.claims.specs.Rows.{packets_of}

-- its records are read back as blocks
abbrev pub feeder_for : Setting → Feeder Reader State Block
feeder_for s = record { tuned = tuned_to s; blocks = blocks }

-- a call: the packet, and the output lent to it, with room
abbrev pub Call : Type 0
Call = Rows-as-Call room

-- the blocks that the calls write
abbrev pub comes_out : Setting → Reader → List Call → List Block
comes_out s = rows_comes_out (feeder_for s)

-- the reader that the calls leave, and whether one of them drops a block
abbrev pub leaves : Setting → Reader → List Call → Reader
leaves s = rows_leaves (feeder_for s)

abbrev pub drops : Setting → Reader → List Call → Bool
drops s = rows_drops (feeder_for s)

-- the one call for a list of packets says, hands back and writes what a call for each of those in front does
abbrev pub AsCalls : Setting → Reader → List ℕ → List Call → List Call → Type 0
AsCalls s = Rows-as-AsCalls (feeder_for s)
