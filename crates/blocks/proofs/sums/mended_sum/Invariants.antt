-- `blocks::sums::mended_sum` meets its contract: of the bytes passed, all decode, and their sum and the nibbles still to come make, modulo
-- 256, the sum of all; a body of fewer than two bytes goes by `sound` and `checksum`.
-- Assumes nothing.
use mathlib.Core.Path.{◌≡◌}
use mathlib.Core.List.{map}
use Prim.Native.Nat.{◌+◌, ◌%◌, ◌<◌, ◌≤◌}
use lib.ListN.{length, drop}
use Rattle.octet.specs.Decoding.{nib}
use Rattle.fields.specs.Fields.{parts}
use Rattle.blocks.specs.Sums.{total, sound}
use Rattle.blocks.proofs.sums.mended_sum.Given as goal

abbrev pub invariant-loop-i : goal.invariant-loop-i
invariant-loop-i l =
    (l.i ≤ length l.body)
    × (l.sum < 256)
    × ((l.sum + total (map nib (drop l.i l.body))) % 256 ≡ (total (parts 4 4 l.head) + total (drop 2 (map nib l.body))) % 256)
    × (l.i + sound (map nib (drop l.i l.body)) ≡ sound (map nib l.body))
