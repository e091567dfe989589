-- `stripped::put_packets` meets its contract. The loop's invariant: the packets from here on, stored now, give the whole. The measure is
-- what is left of the PES packet. Assumes nothing.
use Prim.Native.Nat.{◌-◌}
use lib.ListN.{length}
use Rattle.pes.proofs.Filling.{Filled}
use Rattle.stripped.specs.Stripped.{packet_at}
use Rattle.stripped.proofs.put_packets.Given as goal

abbrev pub invariant-loop-unit : goal.invariant-loop-unit
invariant-loop-unit l = Filled (packet_at l.pes) l.pes l.initial.packets l.at l.to l.packets

abbrev pub decreases-loop-unit : goal.decreases-loop-unit
decreases-loop-unit l = length l.pes - l.at
