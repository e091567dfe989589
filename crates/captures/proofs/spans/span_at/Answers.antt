-- `captures::spans::span_at` meets its contract, by its tests. Assumes nothing.
use Rattle.captures.proofs.Spanning.{span-one, span_none, span-next}
use Rattle.captures.proofs.spans.span_at.Goals as goal

pub returns-then-is_one : goal.returns-then-is_one
returns-then-is_one c =
    let a = c.args in
    span-one a.setting a.records.now a.at c.is_one.ensures c.if-is_one.true c.after.ensures

pub returns-then-records-at : goal.returns-then-records-at
returns-then-records-at c =
    let a = c.args in
    span_none a.setting a.records.now a.at c.is_one.ensures c.if-is_one.false c.if-records-at.true

pub returns : goal.returns
returns c =
    let a = c.args in
    span-next a.setting a.records.now a.at c.is_one.ensures c.if-is_one.false c.if-records-at.false c.after-2.ensures
