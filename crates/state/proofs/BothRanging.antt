-- The states that a reader of two streams leaves: a taken packet's state is in range again, and is held without loss. Each is what holds of
-- one stream, for both. Assumes nothing.
use mathlib.Core.Path.{◌≡◌, ap}
use mathlib.Core.Bool.{true}
use mathlib.Core.List.{List}
use Prim.Native.Nat.{ℕ}
use Rattle.laws.proofs.Tests.{both-holds}
use Rattle.packet.specs.declared.two.Streams.{Streams}
use Rattle.packet.specs.Two.{first_of}
use Rattle.packet.specs.Address.{address_of}
use Rattle.pages.specs.declared.two.Whose.TheVariants.{First, Second}
use Rattle.pages.specs.Seen.{see}
use Rattle.pages.specs.Two.{see_by_two}
use Rattle.pages.specs.Internal.{second_only}
use Rattle.pages.proofs.Beside.{seen_first, seen-second-only}
use Rattle.state.specs.Acting.{State}
use Rattle.state.specs.Two.{TwoState, state_for, fresh_of_two, act_of_two, readers_in_range, two_state_of, readers_of, SoundOfTwo}
use Rattle.state.proofs.Ranging.{sound-fresh, sound-after, state_held, reader_in_range_lem}
use Rattle.state.proofs.Beside.{state_beside}

pub both-sound-fresh : SoundOfTwo fresh_of_two
both-sound-fresh First = sound-fresh
both-sound-fresh Second = sound-fresh

-- a taken packet's state is in range again, whatever the setting
pub both-sound-after : (s : Streams) (st : TwoState) (q : List ℕ) → SoundOfTwo st → SoundOfTwo (act_of_two st (see_by_two s q))
unfolding see see_by_two
both-sound-after s st q r First =
    rw (state_beside First st (see_by_two s q), ← (seen_first s (address_of q) q)) (sound-after (first_of s) (state_for First st) q (r First))
both-sound-after s st q r Second =
    rw (state_beside Second st (see_by_two s q), ← (seen-second-only s (address_of q) q)) (sound-after (second_only s) (state_for Second st) q (r Second))

-- nothing is lost in holding it
pub both-held : (st : TwoState) → SoundOfTwo st → two_state_of (readers_of st) ≡ st
both-held st r =
    let one = ap (λ (x : State). x.mode) (state_held (state_for First st) (r First)) in
    let two = ap (λ (x : State). x.mode) (state_held (state_for Second st) (r Second)) in
    rw (one, two)

-- and what is held is in range
pub both-in_range : (st : TwoState) → SoundOfTwo st → readers_in_range (readers_of st) ≡ true
unfolding readers_in_range
both-in_range st r =
    both-holds _ _ (reader_in_range_lem (state_for First st) (r First)) (reader_in_range_lem (state_for Second st) (r Second))
