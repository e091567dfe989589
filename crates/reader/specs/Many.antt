-- One stream, and a list of packets: with room for one at all, each is taken while the room left is enough for one (SCOPE 10.6).
use Rattle.std.specs.Prelude.{List, ℕ}
use Rattle.answer.specs.Rules.{Rule}
use Rattle.blocks.specs.Block.{Block}
use Rattle.packet.specs.declared.Setting.{Setting}
use Rattle.state.specs.declared.Reader.{Reader}
use Rattle.state.specs.Acting.{State}
use Rattle.reader.specs.Taking.{HeardAll}
use Rattle.reader.specs.Calls.{Ran as Calls-as-Ran, begun as calls_begun, feed_all_heard as calls_feed_all_heard, feed_all_out as calls_feed_all_out, feed_all_reader as calls_feed_all_reader, feed_all_rules as calls_feed_all_rules, ran_all as calls_ran_all, ran_on as calls_ran_on, run as calls_run}
pub use Rattle.reader.specs.Calls.{refused_all}
use Rattle.reader.specs.Feeding.{does_for, tuned_to}

-- what packets taken one after the other have come to
abbrev pub Ran : Type 0
Ran = Calls-as-Ran State Block

abbrev pub begun : State → Ran
begun = calls_begun

-- one packet more
abbrev pub ran_on : Setting → Ran → List ℕ → Ran
ran_on s = calls_ran_on (does_for s)

-- at most n packets from the front of l, into an output so long
abbrev pub run : Setting → ℕ → ℕ → Ran → List ℕ → Ran
run s = calls_run (does_for s)

abbrev pub ran_all : Setting → Reader → List ℕ → List ℕ → Ran
ran_all s = calls_ran_all (tuned_to s)

-- 16 for setting, state or list, and after it 1, whatever the list is (SCOPE 3.5, 10.6)
abbrev pub feed_all_rules : Setting → Reader → List ℕ → List ℕ → List Rule
feed_all_rules s = calls_feed_all_rules (tuned_to s)

-- the answer, the reader handed back, and the output afterwards
abbrev pub feed_all_heard : Setting → Reader → List ℕ → List ℕ → HeardAll
feed_all_heard s = calls_feed_all_heard (tuned_to s)

abbrev pub feed_all_reader : Setting → Reader → List ℕ → List ℕ → Reader
feed_all_reader s = calls_feed_all_reader (tuned_to s)

abbrev pub feed_all_out : Setting → Reader → List ℕ → List ℕ → List ℕ
feed_all_out s = calls_feed_all_out (tuned_to s)
