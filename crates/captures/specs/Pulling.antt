-- What a call of `next` gives: all but what a read gives is settled.
use Rattle.std.specs.Prelude.{◌≡◌, Bool, true, false, List, ℕ, ◌%◌, leb, ltb, length}
use Rattle.laws.specs.Pick.{pick}
use Rattle.packet.specs.Packet.{packet_length}
use Rattle.captures.specs.declared.reading.Got.{Got}
use Rattle.captures.specs.declared.reading.Got.TheVariants.{Bytes, Failed}
use Rattle.captures.specs.declared.Stage.{Stage}
use Rattle.captures.specs.declared.Stage.TheVariants.{More, Last, Over, Broken}
use Rattle.captures.specs.declared.Course.{Course}
use Rattle.captures.specs.declared.Capture.{Capture}
use Rattle.captures.specs.declared.Came.{Came}
use Rattle.captures.specs.declared.Came.TheVariants.{Records, Ended, Unread, Stuck}
use Rattle.captures.specs.declared.Turn.{Turn}
use Rattle.sight.specs.Sights.{looked_sight, looked_at, noted_at}
use Rattle.captures.specs.Courses.{staged, seeing, holding}
use Rattle.captures.specs.Feeding.{whole_end, fed_turn, fed_records}
use Rattle.captures.specs.Reading.{fits_in}

-- whether the reader has had all packets of the piece
abbrev pub is_fed : Course → Bool
is_fed c = leb (whole_end c.held) c.at

-- ---- a piece that is fed is looked at

abbrev pub looked_capture : Capture → List ℕ → Capture
looked_capture c piece =
    let g = c.course in
    record { reader = c.reader; readers = c.readers; course = seeing g (looked_sight g.setting g.verbose g.sight g.held piece) }

abbrev pub looked_piece : Course → List ℕ → List ℕ
looked_piece g piece = looked_at g.setting g.verbose g.sight g.held piece

abbrev pub looked_pages : Course → List ℕ → List ℕ → List ℕ
looked_pages g piece pages = noted_at g.verbose g.sight g.held piece pages

-- ---- behind it, the end or another piece

abbrev pub restaged : Capture → Stage → Capture
restaged c stage = record { reader = c.reader; readers = c.readers; course = staged c.course stage }

-- all was handed out; so many bytes make no packet (SCOPE 13.5)
abbrev pub ended_turn : Capture → Turn
ended_turn c = record { capture = restaged c Over; came = Ended (c.course.held % packet_length) }

-- a piece that isn't full is the last
abbrev pub stage_after : ℕ → ℕ → Stage
stage_after n full = pick (ltb n full) Last More

-- what a read gave, of a piece so long
abbrev pub read_turn : Capture → Got → ℕ → Turn
read_turn c Failed full = record { capture = restaged c Broken; came = Unread }
read_turn c (Bytes n) full =
    record { capture = record { reader = c.reader; readers = c.readers; course = holding c.course n (stage_after n full) }; came = Records 0 }

-- a read gave something that stands in the piece
pub record ReadOn (c : Capture) (full : ℕ) (r : Turn) : Type 0 where
  pub got : Got
  pub inside : fits_in got full ≡ true
  pub turn : r ≡ read_turn c got full

-- ---- the call

-- from each stage: the turn, where a read gave `got`
abbrev pub turn_from : Stage → Capture → Got → List ℕ → List ℕ → Turn
turn_from Broken c got piece old = record { capture = c; came = Stuck }
turn_from Over c got piece old = record { capture = c; came = Ended (c.course.held % packet_length) }
turn_from Last c got piece old = pick (is_fed c.course) (ended_turn (looked_capture c piece)) (fed_turn c piece old)
turn_from More c got piece old = pick (is_fed c.course) (read_turn (looked_capture c piece) got (length piece)) (fed_turn c piece old)

-- whether the piece is fed: else nothing is
abbrev pub is_feeding : Stage → Course → Bool
is_feeding Broken c = false
is_feeding Over c = false
is_feeding Last c = pick (is_fed c) false true
is_feeding More c = pick (is_fed c) false true

-- whether it is looked at
abbrev pub is_looking : Stage → Course → Bool
is_looking Broken c = false
is_looking Over c = false
is_looking Last c = is_fed c
is_looking More c = is_fed c

-- whether a read may change it
abbrev pub is_reading : Stage → Course → Bool
is_reading Broken c = false
is_reading Over c = false
is_reading Last c = false
is_reading More c = is_fed c

abbrev pub records_from : Stage → Capture → List ℕ → List ℕ → List ℕ
records_from stage c piece old = pick (is_feeding stage c.course) (fed_records c piece old) old

abbrev pub piece_from : Stage → Capture → List ℕ → List ℕ
piece_from stage c piece = pick (is_looking stage c.course) (looked_piece c.course piece) piece

abbrev pub pages_from : Stage → Capture → List ℕ → List ℕ → List ℕ
pages_from stage c piece pages = pick (is_looking stage c.course) (looked_pages c.course piece pages) pages

-- what a call makes of a capture at this stage and of what it is lent. Only what a read gives, and which bytes, is open.
pub record PulledFrom (stage : Stage) (c : Capture) (piece piece' records records' pages pages' : List ℕ) (r : Turn) : Type 0 where
  pub got : Got
  pub inside : fits_in got (length piece) ≡ true
  pub turn : r ≡ turn_from stage c got piece records
  pub filled : records' ≡ records_from stage c piece records
  pub noted : pages' ≡ pages_from stage c piece pages
  pub kept : is_reading stage c.course ≡ false → piece' ≡ piece_from stage c piece

abbrev pub Pulled : Capture → List ℕ → List ℕ → List ℕ → List ℕ → List ℕ → List ℕ → Turn → Type 0
Pulled c = PulledFrom c.course.stage c
