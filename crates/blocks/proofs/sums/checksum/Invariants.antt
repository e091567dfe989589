-- `blocks::sums::checksum` meets its contract: the sum so far and the nibbles still to come make, modulo 256, the sum of all. Assumes nothing.
use mathlib.Core.Path.{◌≡◌}
use mathlib.Core.List.{map}
use Prim.Native.Nat.{◌+◌, ◌%◌, ◌<◌}
use lib.ListN.{drop}
use Rattle.octet.specs.Decoding.{nib}
use Rattle.fields.specs.Fields.{parts}
use Rattle.blocks.specs.Sums.{total}
use Rattle.blocks.proofs.sums.checksum.Given as goal

abbrev pub invariant-loop-i : goal.invariant-loop-i
invariant-loop-i l =
    (l.total < 256)
    × ((l.total + total (map nib (drop l.i l.body))) % 256 ≡ (total (parts 4 4 l.head) + total (drop 2 (map nib l.body))) % 256)
