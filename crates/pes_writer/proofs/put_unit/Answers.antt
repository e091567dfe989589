-- `pes_writer::put_unit` meets its contract: its four stores and the run that follows are the unit's bytes in order. Assumes nothing.
use mathlib.Core.Path.{◌∙◌}
use native.Mathlib.Numerals.{add-one, add-two, add-three, add-four}
use native.Mathlib.Omega.{arith}
use lib.ListN.{length-set}
use Rattle.pes.proofs.Runs.{text-fits}
use Rattle.pes_writer.specs.Writing.{unit_of}
use Rattle.pes_writer.proofs.put_unit.Goals as goal

pub bounds-out-to-2 : goal.bounds-out-to-2
bounds-out-to-2 c = simp length-set (omega arith)

pub bounds-out-to-3 : goal.bounds-out-to-3
bounds-out-to-3 c = simp length-set (omega arith)

pub bounds-out-to-4 : goal.bounds-out-to-4
bounds-out-to-4 c = simp length-set (omega arith)

pub shape_of-out : goal.shape_of-out
shape_of-out c = c.turn_run.auto.out ∙ simp length-set

pub returns : goal.returns
unfolding unit_of
returns c =
    let a = c.args in
    c.turn_run.ensures
    ∙ text-fits _ _ _ _ (omega arith) (simp length-set (omega arith))
    ∙ rw (add-one a.to, add-two a.to, add-three a.to, add-four a.to)
