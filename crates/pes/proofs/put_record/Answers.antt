-- `pes::put_record` meets its contract: its two stores and the run that follows are the record's bytes in order. Assumes nothing.
use mathlib.Core.Path.{◌∙◌}
use native.Mathlib.Numerals.{add-one, add-two}
use native.Mathlib.Omega.{arith}
use lib.ListN.{length-set}
use Rattle.pes.proofs.Runs.{text-fits}
use Rattle.pes.specs.Reading.{record_at}
use Rattle.pes.proofs.put_record.Goals as goal

pub bounds-out-to-2 : goal.bounds-out-to-2
bounds-out-to-2 c = simp length-set (omega arith)

pub shape_of-out : goal.shape_of-out
shape_of-out c = c.turn_run.auto.out ∙ simp length-set

pub returns : goal.returns
unfolding record_at
returns c =
    let a = c.args in
    c.turn_run.ensures
    ∙ text-fits _ _ _ _ (omega arith) (simp length-set (omega arith))
    ∙ rw (add-one a.to, add-two a.to)
