-- `lent_bytes::fill` meets its contract: what there is of the front is what is stored. Assumes nothing.
use Rattle.std.proofs.Common.{◌≡◌, arith, rules, length, take, length-take}
use Rattle.lent_bytes.proofs.Moving.{filled}
use Rattle.lent_bytes.proofs.fill.Goals as goal

pub returns : goal.returns
returns c =
    let d = c.args.dst.now in
    let long : length (take c.min-there.result d) ≡ c.min-there.result = rw length-take (omega arith) in
    filled d c.args.n c.args.b c.min-there.ensures (rw long at (c.fill.ensures.after (search rules)))
