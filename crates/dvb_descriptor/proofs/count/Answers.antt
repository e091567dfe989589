-- `dvb_descriptor::count` meets its contract: a form's length says how many subtitles it has. Assumes nothing.
use native.Mathlib.Omega.{arith}
use Rattle.dvb_descriptor.proofs.Walking.{form-count}
use Rattle.dvb_descriptor.proofs.count.Goals as goal

pub overflow_sub-result : goal.overflow_sub-result
overflow_sub-result c =
    let p = c.requires in
    omega (arith, p.1, form-count c.args.table.now p.0)

pub overflow_sub-result-2 : goal.overflow_sub-result-2
overflow_sub-result-2 c =
    let p = c.requires in
    omega (arith, p.1, form-count c.args.table.now p.0, c.byte_at.ensures.0)

pub returns : goal.returns
returns c =
    let p = c.requires in
    omega (arith, p.1, form-count c.args.table.now p.0, c.byte_at.ensures.0)
