-- The walk of `mixed` along a list, by place: one byte more, and the end. Assumes nothing.
use mathlib.Core.Path.{◌≡◌}
use mathlib.Core.List.{List}
use Prim.Native.Nat.{ℕ, ◌+◌, ◌≤◌, ◌<◌}
use native.Mathlib.Numerals.{add-one}
use lib.Bits.{bit_xor}
use lib.ListN.{length, drop, get_or, drop_of_length-le}
use lib.Seq.{drop-cons}
use Rattle.bench.specs.Mixing.{mixed}

-- a step, with the callee's answer n for the byte at i
pub mix_step :
    (f : ℕ → ℕ) (s : List ℕ) (i mix n : ℕ)
    → i < length s
    → n ≡ f (get_or s i 0)
    → mixed f (drop (i + 1) s) (bit_xor mix n) ≡ mixed f (drop i s) mix
unfolding mixed
mix_step f s i mix n h e = rw (add-one i, drop-cons s i 0 h, e)

pub mix_end : (f : ℕ → ℕ) (s : List ℕ) (i mix : ℕ) → length s ≤ i → mixed f (drop i s) mix ≡ mix
unfolding mixed
mix_end f s i mix h = rw (drop_of_length-le s {i = i} h)
