-- `listing_reader::table_from` meets its contract: what was counted, with what is left from here on, is the whole table. The measure is what is left of the sheet. Assumes nothing.
use mathlib.Core.Path.{◌≡◌}
use Prim.Native.Nat.{◌-◌, ◌≤◌}
use lib.ListN.{length, drop}
use Rattle.listing_reader.specs.Reading.{summary_of}
use Rattle.listing_reader.specs.Reading.{descriptors_of}
use Rattle.listing_reader.proofs.Walks.{table_after}
use Rattle.listing_reader.proofs.table_from.Given as goal

abbrev pub invariant-loop-part : goal.invariant-loop-part
invariant-loop-part l =
    (l.at ≤ l.p) × (l.p ≤ length l.sheet) × (l.count ≤ l.p - l.at) × (l.entries ≤ l.p - l.at)
    × (table_after l.kind l.count l.entries l.over (l.p - l.at) (descriptors_of l.kind (drop l.p l.sheet)) ≡ summary_of l.kind (descriptors_of l.kind (drop l.at l.sheet)))

abbrev pub decreases-loop-part : goal.decreases-loop-part
decreases-loop-part l = length l.sheet - l.p
