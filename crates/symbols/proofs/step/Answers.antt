-- `symbols::step` meets its contract: where a record stands its next symbol is sent, and filler where none does. Assumes nothing.
use mathlib.Core.Path.{◌∙◌, sym}
use native.Mathlib.Omega.{arith}
use Rattle.blocks.proofs.Walking.{Standing, standing, ended, broken}
use Rattle.symbols.proofs.Sending.{end_not, sent_symbol, sent-filler}
use Rattle.symbols.proofs.step.Goals as goal

pub byte_at-requires : goal.byte_at-requires
byte_at-requires c =
    let stands-c : (Standing c.args.records.now c.args.pen.at
    c.in-Record.head c.in-Record.raw c.in-Record.next) = (standing _ _ _ _ _ (sym c.record_at.ensures ∙ c.in-Record.is)) in
    let s = stands-c in omega arith

pub overflow_sub-next : goal.overflow_sub-next
overflow_sub-next c =
    let stands-c : (Standing c.args.records.now c.args.pen.at
    c.in-Record.head c.in-Record.raw c.in-Record.next) = (standing _ _ _ _ _ (sym c.record_at.ensures ∙ c.in-Record.is)) in
    let s = stands-c in omega arith

pub moved-requires : goal.moved-requires
moved-requires c =
    let stands-c : (Standing c.args.records.now c.args.pen.at
    c.in-Record.head c.in-Record.raw c.in-Record.next) = (standing _ _ _ _ _ (sym c.record_at.ensures ∙ c.in-Record.is)) in
    let s = stands-c in omega arith

pub returns-in-Record : goal.returns-in-Record
returns-in-Record c =
    let stands-c : (Standing c.args.records.now c.args.pen.at
    c.in-Record.head c.in-Record.raw c.in-Record.next) = (standing _ _ _ _ _ (sym c.record_at.ensures ∙ c.in-Record.is)) in
    sent_symbol _ _ _ _ _ stands-c c.byte_at.result c.moved.result c.byte_at.ensures c.moved.ensures

pub returns-in-End : goal.returns-in-End
returns-in-End c = sent-filler _ _ (end_not _ _ (ended _ _ (sym c.record_at.ensures ∙ c.in-End.is))) c.filler.result c.filler.ensures

pub returns-in-Broken : goal.returns-in-Broken
returns-in-Broken c = sent-filler _ _ (broken _ _ (sym c.record_at.ensures ∙ c.in-Broken.is)).1 c.filler-in-Broken.result c.filler-in-Broken.ensures
