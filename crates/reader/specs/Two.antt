-- Two streams at once: what a packet does, what goes out of it, and the calls (SCOPE 27.2, 27.3, 27.5).
use Rattle.std.specs.Prelude.{List, [], ◌∷◌, ◌++◌, ℕ}
use Rattle.answer.specs.Rules.{Rule}
use Rattle.blocks.specs.Block.{record_of}
use Rattle.packet.specs.declared.two.Streams.{Streams}
use Rattle.packet.specs.Two.{in_range_of_two}
use Rattle.pages.specs.declared.two.Whose.{Whose}
use Rattle.pages.specs.declared.two.Whose.TheVariants.{First, Second}
use Rattle.pages.specs.Two.{see_by_two}
use Rattle.state.specs.declared.two.Readers.{Readers}
use Rattle.state.specs.Two.{TwoState, Handed, act_of_two, handed_of_two, dropped_of_two, readers_in_range, two_state_of, readers_of}
use Rattle.reader.specs.Taking.{Heard, HeardAll}
use Rattle.reader.specs.Calls.{Ran as Calls-as-Ran, feed_all_heard as calls_feed_all_heard, feed_all_out as calls_feed_all_out, feed_all_reader as calls_feed_all_reader, feed_all_rules as calls_feed_all_rules, feed_heard as calls_feed_heard, feed_out as calls_feed_out, feed_reader as calls_feed_reader, feed_rules as calls_feed_rules}
use Rattle.reader.specs.Calls.{Does, Tuned}

-- the bytes of output that a reader of two must be lent for one packet (SCOPE 27.5)
abbrev pub room_of_two : ℕ
room_of_two = 2176

-- ---- what goes out

-- the number of a stream, by whose it is
abbrev pub stream_for : Whose → Streams → ℕ
stream_for First s = s.first
stream_for Second s = s.second

-- a block, as the number of its stream in one byte and then its record
abbrev pub marked_of : Streams → Handed → List ℕ
marked_of s h = stream_for h.whose s ∷ record_of h.block

-- blocks one after the other
unfoldable pub marked_all : Streams → List Handed → List ℕ
marked_all s [] = []
marked_all s (h ∷ hs) = marked_of s h ++ marked_all s hs

-- ---- packets one after the other

-- what a packet does
abbrev pub does_for_two : Streams → Does TwoState Handed
does_for_two s =
    record {
      act = λ st p. act_of_two st (see_by_two s p);
      handed = λ st p. handed_of_two st (see_by_two s p);
      dropped = λ st p. dropped_of_two st (see_by_two s p);
      bytes = marked_all s;
      room = room_of_two;
    }

-- the reader of two
abbrev pub tuned_to_two : Streams → Tuned Readers TwoState Handed
tuned_to_two s =
    record { does = does_for_two s; fits = in_range_of_two s; in_range = readers_in_range; state = two_state_of; held = readers_of }

-- what packets taken one after the other have come to
abbrev pub RanOfTwo : Type 0
RanOfTwo = Calls-as-Ran TwoState Handed

-- ---- a list of packets: the answer, the state handed back, and the output afterwards

abbrev pub feed_all_rules_of_two : Streams → Readers → List ℕ → List ℕ → List Rule
feed_all_rules_of_two s = calls_feed_all_rules (tuned_to_two s)

abbrev pub feed_all_heard_of_two : Streams → Readers → List ℕ → List ℕ → HeardAll
feed_all_heard_of_two s = calls_feed_all_heard (tuned_to_two s)

abbrev pub feed_all_readers_of_two : Streams → Readers → List ℕ → List ℕ → Readers
feed_all_readers_of_two s = calls_feed_all_reader (tuned_to_two s)

abbrev pub feed_all_out_of_two : Streams → Readers → List ℕ → List ℕ → List ℕ
feed_all_out_of_two s = calls_feed_all_out (tuned_to_two s)

-- ---- one packet

abbrev pub feed_rules_of_two : Streams → Readers → List ℕ → List ℕ → List Rule
feed_rules_of_two s = calls_feed_rules (tuned_to_two s)

abbrev pub feed_heard_of_two : Streams → Readers → List ℕ → List ℕ → Heard
feed_heard_of_two s = calls_feed_heard (tuned_to_two s)

abbrev pub feed_readers_of_two : Streams → Readers → List ℕ → List ℕ → Readers
feed_readers_of_two s = calls_feed_reader (tuned_to_two s)

abbrev pub feed_out_of_two : Streams → Readers → List ℕ → List ℕ → List ℕ
feed_out_of_two s = calls_feed_out (tuned_to_two s)
