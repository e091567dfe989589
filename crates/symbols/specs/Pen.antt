-- Where the writer stands in the stream, and what it sends from there (SCOPE 11.1).
use Rattle.std.specs.Prelude.{false, List, ℕ, ◌+◌, ◌*◌, ◌/◌, eqb, ltb, get_or, drop}
use Rattle.laws.specs.Pick.{pick}
use Rattle.blocks.specs.Block.{size_of, head_of, record_length, begins, block_of}
use Rattle.symbols.specs.declared.Pen.{Pen}
use Rattle.symbols.specs.declared.Sent.{Sent}
use Rattle.symbols.specs.Stream.{fill, byte_of, cells_of}

-- one symbol on: at the next of the block's symbols, or at the next record
abbrev pub moved_of : Pen → ℕ → ℕ → Pen
moved_of pen size next =
    pick (ltb (pen.sent + 1) ((size + 7) / 3 * 3)) (record { at = pen.at; sent = pen.sent + 1 }) (record { at = next; sent = 0 })

abbrev pub filler_at : Pen → Sent
filler_at pen = record { byte = byte_of fill; starts = false; pen = pen }

-- what is sent where the writer stands: the record's next symbol, or filler where no whole record stands there
unfoldable pub sent_of : List ℕ → Pen → Sent
sent_of l pen =
    let rest = drop pen.at l in
    pick (begins rest)
    (record {
      byte = byte_of (get_or (cells_of (block_of rest)) pen.sent fill);
      starts = eqb pen.sent 0;
      pen = moved_of pen (size_of (head_of rest)) (pen.at + record_length rest);
    })
    (filler_at pen)
