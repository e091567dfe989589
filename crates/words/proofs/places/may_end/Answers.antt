-- `words::places::may_end` meets its contract: its tests in order. Assumes nothing.
use Rattle.words.proofs.Placing.{end-all, end-any, end-not-yet, end-again}
use Rattle.words.proofs.places.may_end.Goals as goal

pub returns-then-places-at : goal.returns-then-places-at
returns-then-places-at c = end-all _ c.args.spot c.if-places-at.true

pub returns-then-places-at-eq-ANY_NUMBER : goal.returns-then-places-at-eq-ANY_NUMBER
returns-then-places-at-eq-ANY_NUMBER c = end-any _ c.args.spot c.if-places-at.false c.if-places-at-eq-ANY_NUMBER.true

pub returns-then-group-eq0 : goal.returns-then-group-eq0
returns-then-group-eq0 c = end-not-yet _ c.args.spot c.if-places-at.false c.if-places-at-eq-ANY_NUMBER.false c.if-group-eq0.true

pub returns : goal.returns
returns c = end-again _ c.args.spot c.if-places-at.false c.if-places-at-eq-ANY_NUMBER.false c.if-group-eq0.false
