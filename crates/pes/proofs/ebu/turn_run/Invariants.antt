-- `pes::ebu::turn_run` meets its contract. The loop's invariant: what is still to be stored, stored now, gives the whole. Assumes nothing.
use mathlib.Core.Path.{◌≡◌}
use lib.ListN.{length}
use Rattle.pes.proofs.Runs.{run_left}
use Rattle.pes.proofs.ebu.turn_run.Given as goal

abbrev pub invariant-loop-i : goal.invariant-loop-i
invariant-loop-i l =
    (length l.out ≡ length l.initial.out)
    × (run_left 42 l.i l.from l.src l.to l.out ≡ run_left 42 0 l.from l.src l.to l.initial.out)
