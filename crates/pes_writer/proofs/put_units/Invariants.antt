-- `pes_writer::put_units` meets its contract. The loop's invariant: the units of the records from here on, stored now, give the whole.
-- Assumes nothing.
use mathlib.Core.Path.{◌≡◌}
use Prim.Native.Nat.{◌+◌, ◌-◌, ◌*◌}
use lib.Seq.{sets}
use Rattle.pes_writer.specs.Writing.{units_of}
use Rattle.pes_writer.proofs.put_units.Given as goal

abbrev pub invariant-loop-i : goal.invariant-loop-i
invariant-loop-i l =
    sets l.out (46 + 46 * l.i) (units_of (l.units - l.i) l.records (44 * l.i)) ≡ sets l.initial.out 46 (units_of l.units l.records 0)
