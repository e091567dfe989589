-- `information_writer::measuring::value_at` meets its contract, for each number of bytes. Assumes nothing.
use mathlib.Core.Path.{◌≡◌}
use native.Mathlib.Omega.{arith}
use Rattle.information_writer.proofs.Along.{value_none, value-one, value-two, value-three}
use Rattle.information_writer.proofs.measuring.value_at.Goals as goal

pub returns-in-0 : goal.returns-in-0
returns-in-0 c = rw c.in-0.is (value_none c.args.form.now c.args.at)

pub returns-in-1 : goal.returns-in-1
returns-in-1 c =
    let x = c.byte_at-low in rw c.in-1.is (value-one c.args.form.now c.args.at x.result x.ensures.0 x.ensures.1)

pub returns-in-2 : goal.returns-in-2
returns-in-2 c =
    let x = c.byte_at-low in
    let y = c.byte_at-mid in
    rw c.in-2.is
    (value-two c.args.form.now c.args.at x.result x.ensures.0 x.ensures.1 y.result y.ensures.0 y.ensures.1)

pub returns-in_default : goal.returns-in_default
returns-in_default c =
    let x = c.byte_at-low in
    let y = c.byte_at-mid in
    let z = c.byte_at-high in
    let e : c.args.k ≡ 3 = omega arith in
    rw e
    (value-three c.args.form.now c.args.at x.result x.ensures.0 x.ensures.1 y.result y.ensures.0 y.ensures.1 z.result
    z.ensures.0 z.ensures.1)
