-- The answers that `writer::write_symbols` wants beside its invariants. Assumes nothing.
use borrow.Author.Rules.{rules}
use Rattle.symbols.proofs.Sending.{sends}
use Rattle.writer.proofs.Filling.{stored-none, stored_more, stored-all}
use Rattle.writer.proofs.write_symbols.Goals as goal

pub loop-i-init : goal.loop-i-init
loop-i-init c = stored-none _ _ _ _ _ (search rules)

pub loop-i-preserved : goal.loop-i-preserved
loop-i-preserved c =
    let s = c.step-sent in
    let inv = c.loop-i.invariant in
    let sent = sends _ _ inv.goes.stands s.result s.ensures in
    stored_more inv c.loop-i-test.true s.result sent c.first-before.result c.first-before.ensures

pub returns : goal.returns
returns c =
    let it = stored-all c.loop-i.invariant c.loop-i-test.false in
    record { out_after = it.0; before_value = it.1.0; goes = it.1.1 }
