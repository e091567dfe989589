-- How many packets and bytes the writer gives: the pages hold the whole stream, and no page is without a part of it.
-- Assumes nothing.
use mathlib.Core.List.{List}
use Prim.Native.Nat.{ℕ, ◌+◌, ◌-◌, ◌*◌, ◌/◌, ◌≤◌}
use native.Mathlib.Nat.{div-add-mod', mod-lt, mul_assoc}
use native.Mathlib.Omega.{arith}
use lib.ListN.{length}
use Rattle.blocks.specs.Block.{Block}
use Rattle.symbols.specs.Stream.{per_packet, stream_of}
use Rattle.writer.specs.Cutting.{rows_for, pages_for}

-- so many groups of k hold n
ceiling : (n k : ℕ) → 1 ≤ k → n ≤ (n + (k - 1)) / k * k
ceiling n k h = omega (arith, div-add-mod' (n + (k - 1)) k, mod-lt (n + (k - 1)) h)

-- the pages of k packets that n symbols need hold them
pub enough : (k n : ℕ) → 1 ≤ k → n ≤ pages_for k n * (k * per_packet)
enough k n h =
    rw (← mul_assoc (pages_for k n) k per_packet) (omega (arith, ceiling (rows_for n) k h))

pub covered :
    (bs : List Block) (k : ℕ) → 1 ≤ k → length (stream_of bs) ≤ pages_for k (length (stream_of bs)) * (k * per_packet)
covered bs k h = enough k (length (stream_of bs)) h
