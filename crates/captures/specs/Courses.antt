-- How far a capture has come.
use Rattle.std.specs.Prelude.{Bool, ℕ}
use Rattle.packet.specs.declared.two.Streams.{Streams}
use Rattle.state.specs.State.{reader_of, fresh_state}
use Rattle.state.specs.Two.{readers_of, fresh_of_two}
use Rattle.captures.specs.declared.Stage.{Stage}
use Rattle.captures.specs.declared.Stage.TheVariants.{More}
use Rattle.captures.specs.declared.Course.{Course}
use Rattle.captures.specs.declared.Capture.{Capture}
use Rattle.sight.specs.declared.Sight.{Sight}
use Rattle.sight.specs.Sights.{no_sight}

-- nothing is read yet, and the reader is fresh (SCOPE 10.7, 27.2)
abbrev pub started : Streams → Bool → Capture
started g verbose =
    record {
      reader = reader_of fresh_state;
      readers = readers_of fresh_of_two;
      course = record { setting = g; verbose = verbose; stage = More; at = 0; held = 0; dropped = 0; sight = no_sight };
    }

-- the same course, at another stage
abbrev pub staged : Course → Stage → Course
staged c stage =
    record { setting = c.setting; verbose = c.verbose; stage = stage; at = c.at; held = c.held; dropped = c.dropped; sight = c.sight }

-- at another place of the piece, with another number of drops
abbrev pub placed : Course → ℕ → ℕ → Course
placed c at drops =
    record { setting = c.setting; verbose = c.verbose; stage = c.stage; at = at; held = c.held; dropped = drops; sight = c.sight }

-- with something else seen
abbrev pub seeing : Course → Sight → Course
seeing c sight =
    record { setting = c.setting; verbose = c.verbose; stage = c.stage; at = c.at; held = c.held; dropped = c.dropped; sight = sight }

-- at the front of another piece, of n bytes
abbrev pub holding : Course → ℕ → Stage → Course
holding c n stage =
    record { setting = c.setting; verbose = c.verbose; stage = stage; at = 0; held = n; dropped = c.dropped; sight = c.sight }
