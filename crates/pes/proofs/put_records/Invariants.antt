-- `pes::put_records` meets its contract. The loop's invariant: the records from here on, stored now, give the whole. The measure is
-- what is left of the packet. Assumes nothing.
use Prim.Native.Nat.{◌-◌}
use lib.ListN.{length}
use Rattle.pes.specs.Reading.{record_at}
use Rattle.pes.proofs.Filling.{Filled}
use Rattle.pes.proofs.put_records.Given as goal

abbrev pub invariant-loop-unit : goal.invariant-loop-unit
invariant-loop-unit l = Filled (record_at l.pes) l.pes l.initial.out l.at l.to l.out

abbrev pub decreases-loop-unit : goal.decreases-loop-unit
decreases-loop-unit l = length l.pes - l.at
