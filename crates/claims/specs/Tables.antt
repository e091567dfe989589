-- Tables through the whole loader: written, cut, fed, and read again (SCOPE 15.3).
use Rattle.std.specs.Prelude.{List, [], ◌∷◌, ◌++◌, ℕ}
use Rattle.blocks.specs.Block.{Block, blocks, record_of as block_record_of}
use Rattle.packet.specs.declared.Setting.{Setting}
use Rattle.writer.specs.Cutting.{packets}
use Rattle.state.specs.State.{fresh_state, reader_of}
use Rattle.forms.specs.Tables.{Table}
use Rattle.table.specs.Reading.{Outcome, accepted, refused, read_block}
use Rattle.forms.specs.Block.{record_of}
use Rattle.claims.specs.Damage.{stream_in, sendings, Counted, damaged}
use Rattle.claims.specs.Feeding.{Call, comes_out}

-- the records that block writing makes of a list of tables, one after the other
unfoldable pub records_of : ℕ → List Table → List ℕ
records_of application [] = []
records_of application (t ∷ ts) = record_of application t ++ records_of application ts

-- a list of tables as the writer cuts it: the packets, from an index on, in pages of k packets
abbrev pub sent : Setting → ℕ → ℕ → List Table → List (List ℕ)
sent s index k ts = packets s index k (records_of s.application ts)

-- those tables, each with the number of bytes of its sending that arrived other than they were sent: of our packets as they arrived, in
-- pages of k packets
abbrev pub sent_damaged : Setting → ℕ → List Table → List (List ℕ) → List (Counted Table)
sent_damaged s k ts ours = damaged ts (sendings (blocks (records_of s.application ts)) (stream_in k ours))

-- the table that block reading accepts, if it does, with its count
abbrev pub taken : Outcome Table → List (Counted Table)
taken (accepted t c) = record { what = t; mended = c } ∷ []
taken (refused number offset) = []

-- each block that comes out is handed to block reading
unfoldable pub tables_of : ℕ → List Block → List (Counted Table)
tables_of application [] = []
tables_of application (b ∷ bs) = taken (read_block application (block_record_of b)) ++ tables_of application bs

-- the tables that come out of calls of a fresh reader, with their counts
abbrev pub received : Setting → List Call → List (Counted Table)
received s calls = tables_of s.application (comes_out s (reader_of fresh_state) calls)
