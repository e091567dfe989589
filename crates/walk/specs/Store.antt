-- The running block as the code holds it: its bytes in a store of 2,047, all others zero.
use Rattle.std.specs.Prelude.{List, [], ◌++◌, ℕ, ◌-◌, length, take, replicate}
use Rattle.walk.specs.declared.Run.{Run}
use Rattle.walk.specs.declared.Run.TheVariants.{Idle, Head, Body}
use Rattle.walk.specs.Mode.{Mode, off, scan, heading, body}

-- as many bytes as a block can have (SCOPE 10.1)
abbrev pub store_length : ℕ
store_length = 2047

-- a store that holds these bytes, and zeros past them (SCOPE 10.1)
unfoldable pub zeroed : List ℕ → List ℕ
zeroed held = held ++ replicate (store_length - length held) 0

-- the running block that is held
abbrev pub mode_of : Run → List ℕ → Mode
mode_of Idle store = off
mode_of (Head got bits part) store = heading got bits part
mode_of (Body head part held) store = body head part (take held store)

-- how it is held
abbrev pub run_of : Mode → Run
run_of off = Idle
run_of scan = Idle
run_of (heading g v part) = Head g v part
run_of (body h part held) = Body h part (length held)

abbrev pub held_of : Mode → List ℕ
held_of off = []
held_of scan = []
held_of (heading g v part) = []
held_of (body h part held) = held
