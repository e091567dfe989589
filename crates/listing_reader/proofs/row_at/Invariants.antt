-- `listing_reader::row_at` meets its contract: the entries counted, with those left from here on, are the whole row. The measure is what is left of the sheet. Assumes nothing.
use mathlib.Core.Path.{◌≡◌}
use Prim.Native.Nat.{◌-◌, ◌≤◌}
use lib.ListN.{length, drop}
use Rattle.listing_reader.specs.Internal.{row_of}
use Rattle.listing_reader.specs.Reading.{words_of}
use Rattle.listing_reader.proofs.Walks.{row_after}
use Rattle.listing_reader.proofs.row_at.Given as goal

abbrev pub invariant-loop-long : goal.invariant-loop-long
invariant-loop-long l =
    (l.at ≤ l.p) × (l.p ≤ length l.sheet) × (l.count ≤ l.p - l.at)
    × (row_after l.count (l.p - l.at) (words_of l.kind (drop l.p l.sheet)) ≡ row_of (words_of l.kind (drop l.at l.sheet)))

abbrev pub decreases-loop-long : goal.decreases-loop-long
decreases-loop-long l = length l.sheet - l.p
