-- `dvb_descriptor::measure` meets its contract: the walk says how long it is, and at most every entry is a subtitle. Assumes nothing.
use native.Mathlib.Omega.{arith}
use lib.ListN.{drop}
use Rattle.dvb_descriptor.proofs.Walking.{kept_few}
use Rattle.dvb_descriptor.proofs.measure.Goals as goal

pub returns : goal.returns
returns c =
    let a = c.args in
    let p = c.put_subtitles.ensures.0 in
    (p, omega (arith, p, kept_few a.k (drop 2 a.bytes.now)))
