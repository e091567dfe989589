-- `pes_writer::put_stuffing` meets its contract. The loop's invariant: the units that are left, stored now, give the whole. Assumes nothing.
use mathlib.Core.Path.{◌≡◌}
use Prim.Native.Nat.{◌+◌, ◌-◌, ◌*◌}
use lib.Seq.{sets}
use Rattle.pes_writer.specs.Writing.{stuffing_units}
use Rattle.pes_writer.proofs.put_stuffing.Given as goal

abbrev pub invariant-loop-i : goal.invariant-loop-i
invariant-loop-i l =
    sets l.out (l.from + 46 * l.i) (stuffing_units (l.count - l.i)) ≡ sets l.initial.out l.from (stuffing_units l.count)
