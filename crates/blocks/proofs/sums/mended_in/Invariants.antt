-- `blocks::sums::mended_in` meets its contract: those counted so far and the harms of what is left are the count. Assumes nothing.
use mathlib.Core.Path.{◌≡◌}
use Prim.Native.Nat.{◌+◌, ◌≤◌}
use lib.ListN.{length}
use Rattle.std.specs.Slice.Iter.{chunks_rest, chunks_size}
use Rattle.octet.specs.Hearing.{harms}
use Rattle.blocks.specs.Parts.{mended_in}
use Rattle.blocks.proofs.sums.mended_in.Given as goal

abbrev pub invariant-loop-run : goal.invariant-loop-run
invariant-loop-run l =
    (chunks_size l.run-iterator ≡ 240) × (l.count + length (chunks_rest l.run-iterator) ≤ 255 + length l.rec)
    × (l.count + harms (chunks_rest l.run-iterator) ≡ mended_in l.rec)
