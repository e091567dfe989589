-- `listing_reader::lines::number_from` meets its contract: the number so far with the digits left is the whole. Assumes nothing.
use mathlib.Core.Path.{◌≡◌}
use Prim.Native.Nat.{◌+◌, ◌-◌, ◌^◌, ◌<◌}
use lib.ListN.{length, drop}
use Rattle.listing_reader.specs.Lines.{number_from}
use Rattle.listing_reader.proofs.lines.number_from.Given as goal

abbrev pub invariant-loop-seen : goal.invariant-loop-seen
invariant-loop-seen l = (l.from < length l.sheet) × (l.n < 10 ^ l.seen) × (number_from (10 - l.seen) l.n (drop (l.from + l.seen) l.sheet) ≡ number_from 10 0 (drop l.from l.sheet))
