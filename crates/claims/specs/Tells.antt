-- What the answer to one packet owes, or to a list of them, of any feed of one stream: `heard` is what it answers and `out` the output that it
-- leaves, each of a setting, a reader, a packet or a list of them, and the output lent.
use Rattle.std.specs.Prelude.{◌≡◌, true, List, ℕ}
use Rattle.blocks.specs.Block.{blocks}
use Rattle.packet.specs.declared.Setting.{Setting}
use Rattle.packet.specs.Setting.{in_range}
use Rattle.walk.specs.Mode.{running}
use Rattle.state.specs.declared.Reader.{Reader}
use Rattle.walk.specs.Reading.{room}
use Rattle.state.specs.State.{reader_of, Sound}
use Rattle.reader.specs.Taking.{Heard, HeardAll}
use Rattle.claims.specs.Rows.{Tells as Rows-as-Tells, TellsAll as Rows-as-TellsAll}
use Rattle.claims.specs.Feeding.{feeder_for}
use Rattle.claims.specs.March.{Unreadable}

abbrev pub Tells : (Setting → Reader → List ℕ → List ℕ → Heard) → (Setting → Reader → List ℕ → List ℕ → List ℕ) → Type 0
Tells heard out =
    (s : Setting) → in_range s ≡ true
    → Rows-as-Tells room reader_of blocks Sound (λ st. running st.mode ≡ true) (Unreadable s) (heard s) (out s)

abbrev pub TellsAll : (Setting → Reader → List ℕ → List ℕ → HeardAll) → (Setting → Reader → List ℕ → List ℕ → List ℕ) → Type 0
TellsAll heard out = (s : Setting) → in_range s ≡ true → Rows-as-TellsAll (feeder_for s) Sound (heard s) (out s)
