-- Packets of a piece go to the reader, and what it answers moves the capture on (SCOPE 10.6, 27.8).
use Rattle.std.specs.Prelude.{Bool, List, ℕ, ◌+◌, ◌-◌, ◌*◌, ◌/◌, ◌%◌, leb, ltb, length, take, drop}
use Rattle.laws.specs.Pick.{pick, both}
use Rattle.packet.specs.declared.two.Streams.{Streams}
use Rattle.packet.specs.Two.{first_of}
use Rattle.packet.specs.Packet.{packet_length}
use Rattle.survey.specs.Counting.{more_if}
use Rattle.state.specs.declared.Reader.{Reader}
use Rattle.state.specs.declared.two.Readers.{Readers}
use Rattle.reader.specs.Taking.{HeardAll, took_all}
use Rattle.std.specs.declared.result.Result.TheVariants.{Ok, Err}
use Rattle.reader.specs.Many.{feed_all_heard, feed_all_reader, feed_all_out}
use Rattle.reader.specs.Two.{feed_all_heard_of_two, feed_all_readers_of_two, feed_all_out_of_two}
use Rattle.captures.specs.declared.Stage.TheVariants.{Broken}
use Rattle.captures.specs.declared.Course.{Course}
use Rattle.captures.specs.declared.Capture.{Capture}
use Rattle.captures.specs.declared.Came.TheVariants.{Records, Stuck}
use Rattle.captures.specs.declared.Turn.{Turn}
use Rattle.captures.specs.declared.feeding.Answered.{Answered}
use Rattle.captures.specs.declared.feeding.Step.{Step}
use Rattle.captures.specs.Courses.{staged, placed}
use Rattle.captures.specs.Spans.{is_one}

-- ---- what the reader gets in one call

-- the bytes of a full piece
abbrev pub piece_length : ℕ
piece_length = 65520

-- where the whole packets among so many bytes end
abbrev pub whole_end : ℕ → ℕ
whole_end held = held - held % packet_length

-- how many bytes of packets at most: one packet where drops are counted, so that each packet that drops counts (SCOPE 13.10)
abbrev pub step_of : Bool → ℕ
step_of verbose = pick verbose packet_length piece_length

-- where they end, from a place on in a piece of so many bytes
unfoldable pub up_to : Bool → ℕ → ℕ → ℕ
up_to verbose at held = pick (leb (whole_end held - at) (step_of verbose)) (whole_end held) (at + step_of verbose)

abbrev pub end_of : Course → ℕ
end_of c = up_to c.verbose c.at c.held

-- there are some, within the piece
abbrev pub has_some : Course → List ℕ → Bool
has_some c piece = both (ltb c.at (end_of c)) (leb (end_of c) (length piece))

-- those packets
abbrev pub given : Course → List ℕ → List ℕ
given c piece = take (end_of c - c.at) (drop c.at piece)

-- ---- its answer: that of one stream's reader where the setting is of one, else that of two's. The other's state stays

abbrev pub answered_as : Bool → Streams → Reader → Readers → List ℕ → List ℕ → Answered
answered_as one g r rs l old =
    pick one
    (record { heard = feed_all_heard (first_of g) r l old; reader = feed_all_reader (first_of g) r l old; readers = rs })
    (record { heard = feed_all_heard_of_two g rs l old; reader = r; readers = feed_all_readers_of_two g rs l old })

abbrev pub answered_by : Streams → Reader → Readers → List ℕ → List ℕ → Answered
answered_by g r rs l old = answered_as (is_one g) g r rs l old

abbrev pub out_by : Streams → Reader → Readers → List ℕ → List ℕ → List ℕ
out_by g r rs l old = pick (is_one g) (feed_all_out (first_of g) r l old) (feed_all_out_of_two g rs l old)

-- ---- what comes of its answer

-- nothing goes on from here
abbrev pub stuck : Course → Step
stuck c = record { course = staged c Broken; came = Stuck }

-- behind so many bytes of packets, with so many bytes of records, and with a drop if it was told
abbrev pub moved_on : Course → ℕ → ℕ → Bool → Step
moved_on c taken written drops = record { course = placed c (c.at + taken) (more_if drops c.dropped); came = Records written }

-- the reader has to take at least one packet, and no more than it was given; the records have to stand in the space
abbrev pub heeded : Course → HeardAll → ℕ → ℕ → Step
heeded c (Err r) bytes space = stuck c
heeded c (Ok t) bytes space =
    pick (both (leb 1 t.packets) (both (leb t.packets (bytes / packet_length)) (leb t.written space)))
    (moved_on c (packet_length * t.packets) t.written t.dropped)
    (stuck c)

abbrev pub turn_of : Reader → Readers → Step → Turn
turn_of r rs s = record { capture = record { reader = r; readers = rs; course = s.course }; came = s.came }

-- what comes of one call of the reader, with this piece and this space for records
unfoldable pub fed_turn : Capture → List ℕ → List ℕ → Turn
fed_turn c piece old =
    let g = c.course in
    let a = answered_by g.setting c.reader c.readers (given g piece) old in
    pick (has_some g piece) (turn_of a.reader a.readers (heeded g a.heard (end_of g - g.at) (length old)))
    (turn_of c.reader c.readers (stuck g))

-- the space then
unfoldable pub fed_records : Capture → List ℕ → List ℕ → List ℕ
fed_records c piece old =
    let g = c.course in
    pick (has_some g piece) (out_by g.setting c.reader c.readers (given g piece) old) old
