-- `reader::held::finish` meets its contract. Assumes nothing.
use Rattle.walk.proofs.Adding.{stays-running, body-short, goes_out_lem}
use Rattle.reader.proofs.Holding.{none_full}
use Rattle.reader.proofs.held.finish.Goals as goal

pub returns-in_default : goal.returns-in_default
returns-in_default c =
    let a = c.args in
    stays-running a.got a.joined a.out.now c.requires.kept (none_full a.got.run a.store.now c.in_default.not-Body)

pub returns-then-held-head : goal.returns-then-held-head
returns-then-held-head c =
    let a = c.args in
    let k = c.requires.kept in
    stays-running a.got a.joined a.out.now k (body-short k c.in-Body.is c.if-held-head.true)

pub returns : goal.returns
returns c =
    let a = c.args in
    let o = c.hand_out.ensures in
    goes_out_lem a.got a.joined a.out.now c.requires.kept c.in-Body.is c.if-held-head.false o.store_after o.out_after
