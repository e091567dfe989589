-- A list of packets in one call, with room for one, is a call for each of them, as far as there is room: of one stream and of two. Assumes nothing.
use mathlib.Core.Path.{◌≡◌}
use mathlib.Core.Bool.{true}
use mathlib.Core.List.{List, ◌++◌}
use Prim.Native.Nat.{ℕ, ◌≤◌}
use lib.ListN.{length}
use Rattle.packet.specs.declared.Setting.{Setting}
use Rattle.packet.specs.declared.two.Streams.{Streams}
use Rattle.packet.specs.Setting.{in_range}
use Rattle.packet.specs.Two.{in_range_of_two}
use Rattle.writer.specs.Cutting.{FortyTwo}
use Rattle.walk.specs.Reading.{room}
use Rattle.state.specs.Acting.{State}
use Rattle.state.specs.State.{reader_of, Sound}
use Rattle.state.specs.Two.{TwoState, readers_of, SoundOfTwo}
use Rattle.reader.specs.Two.{room_of_two}
use Rattle.claims.specs.Feeding.{feeder_for, Call, packets_of, AsCalls}
use Rattle.claims.specs.Two.{feeder_for_two, CallOfTwo, AsCallsOfTwo}
use Rattle.claims.proofs.Rows as Rows
use Rattle.claims.proofs.Fed.{works}
use Rattle.claims.proofs.FedTwo.{works_two}

pub one_by_one :
    (s : Setting) → in_range s ≡ true → (st : State) → Sound st → (old : List ℕ) → room ≤ length old → (cs : List Call)
    → FortyTwo (packets_of cs)
    → (front : List Call) × (back : List Call) × (cs ≡ front ++ back) × AsCalls s (reader_of st) old front back
one_by_one s i = Rows.one_by_one (feeder_for s) (works s i)

pub one_by_one-of_two :
    (s : Streams) → in_range_of_two s ≡ true → (st : TwoState) → SoundOfTwo st → (old : List ℕ) → room_of_two ≤ length old → (cs : List CallOfTwo)
    → FortyTwo (packets_of cs)
    → (front : List CallOfTwo) × (back : List CallOfTwo) × (cs ≡ front ++ back) × AsCallsOfTwo s (readers_of st) old front back
one_by_one-of_two s i = Rows.one_by_one (feeder_for_two s) (works_two s i)
