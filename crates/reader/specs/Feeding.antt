-- One stream: what a packet does, and the call for one packet.
use Rattle.std.specs.Prelude.{List, ℕ}
use Rattle.answer.specs.Rules.{Rule}
use Rattle.blocks.specs.Block.{Block, records_of}
use Rattle.packet.specs.declared.Setting.{Setting}
use Rattle.packet.specs.Setting.{in_range}
use Rattle.state.specs.declared.Reader.{Reader}
use Rattle.reader.specs.Taking.{Heard}
use Rattle.walk.specs.Reading.{room}
use Rattle.pages.specs.Seen.{see}
use Rattle.state.specs.Acting.{State, act, handed, dropped}
use Rattle.state.specs.State.{state_of, reader_of, reader_in_range}
use Rattle.reader.specs.Calls.{feed_heard as calls_feed_heard, feed_out as calls_feed_out, feed_reader as calls_feed_reader, feed_rules as calls_feed_rules, handed_bytes as calls_handed_bytes}
use Rattle.reader.specs.Calls.{Does, Tuned}
pub use Rattle.reader.specs.Calls.{refused_heard}

-- what a packet does: it is seen, and acted on; blocks go out as records
abbrev pub does_for : Setting → Does State Block
does_for s =
    record {
      act = λ st p. act st (see s p);
      handed = λ st p. handed st (see s p);
      dropped = λ st p. dropped st (see s p);
      bytes = records_of;
      room = room;
    }

-- the reader of one stream
abbrev pub tuned_to : Setting → Tuned Reader State Block
tuned_to s = record { does = does_for s; fits = in_range s; in_range = reader_in_range; state = state_of; held = reader_of }

-- 16 for setting, state or packet, and after it 1 (SCOPE 3.5)
abbrev pub feed_rules : Setting → Reader → List ℕ → List ℕ → List Rule
feed_rules s = calls_feed_rules (tuned_to s)

-- the records of the blocks that a packet finishes
abbrev pub handed_bytes : Setting → State → List ℕ → List ℕ
handed_bytes s = calls_handed_bytes (does_for s)

-- the answer, the reader handed back, and the output afterwards
abbrev pub feed_heard : Setting → Reader → List ℕ → List ℕ → Heard
feed_heard s = calls_feed_heard (tuned_to s)

abbrev pub feed_reader : Setting → Reader → List ℕ → List ℕ → Reader
feed_reader s = calls_feed_reader (tuned_to s)

abbrev pub feed_out : Setting → Reader → List ℕ → List ℕ → List ℕ
feed_out s = calls_feed_out (tuned_to s)
