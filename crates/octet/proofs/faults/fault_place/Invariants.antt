-- `octet::faults::fault_place` meets its contract: what is left of the search from place i on is the whole search. Assumes nothing.
use mathlib.Core.Path.{◌≡◌}
use Prim.Native.Nat.{◌-◌}
use Rattle.octet.specs.Parity.{place_from, fault_place}
use Rattle.octet.proofs.faults.fault_place.Given as goal

abbrev pub invariant-loop-i : goal.invariant-loop-i
invariant-loop-i l = (place_from (8 - l.i) l.i l.failing ≡ fault_place l.b)
