-- `information::read_form` meets its contract: the record is judged up to its checksum, and where that agrees its two parts are there.
-- Assumes nothing.
use mathlib.Core.Path.{◌∙◌}
use native.Mathlib.Omega.{arith}
use Rattle.answer.proofs.Handing.{handed}
use Rattle.information.proofs.Parts.{sum-refused, within, lent-most, sum-taken, sum-leaves}
use Rattle.information.proofs.read_form.Goals as goal

pub overflow_add-end : goal.overflow_add-end
overflow_add-end c =
    omega (arith, within c.args.application c.args.rec.now c.judge.ensures c.in_ok-length.was, c.well_formed)

pub slice_bounds-read_parts-count-2 : goal.slice_bounds-read_parts-count-2
slice_bounds-read_parts-count-2 c =
    within c.args.application c.args.rec.now c.judge.ensures c.in_ok-length.was

pub read_parts-requires : goal.read_parts-requires
read_parts-requires c =
    let a = c.args in
    omega (arith, c.well_formed, lent-most a.application a.rec.now c.judge.ensures c.in_ok-length.was)

pub returns-in_err-length : goal.returns-in_err-length
returns-in_err-length c =
    let a = c.args in
    let it = sum-refused a.application a.rec.now c.judge.ensures a.out.now c.in_err-length.was in
    record { answer = handed c.from_residual.ensures ∙ it.0; output = it.1 }

pub returns : goal.returns
returns c =
    let a = c.args in
    let j = c.judge.ensures in
    let d = c.in_ok-length.was in
    let p = c.read_parts in record {
      answer = p.ensures.answer ∙ sum-taken a.application a.rec.now j d a.out.now;
      output = p.ensures.output ∙ sum-leaves a.application a.rec.now j d a.out.now;
    }

pub slice_bounds-read_parts-start-2 : goal.slice_bounds-read_parts-start-2
slice_bounds-read_parts-start-2 c =
    omega (arith, within c.args.application c.args.rec.now c.judge.ensures c.in_ok-length.was)

pub slice_bounds-read_parts-end : goal.slice_bounds-read_parts-end
slice_bounds-read_parts-end c =
    omega (arith, within c.args.application c.args.rec.now c.judge.ensures c.in_ok-length.was)
