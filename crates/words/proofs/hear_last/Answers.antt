-- `words::hear_last` meets its contract: its tests in order. Assumes nothing.
use Rattle.words.proofs.Hearing.{last_name, last-bad, last-dashes}
use Rattle.words.proofs.hear_last.Goals as goal

pub returns-then-looks_like_name : goal.returns-then-looks_like_name
returns-then-looks_like_name c = last_name _ c.args.said _ c.looks_like_name.ensures c.if-looks_like_name.true c.name.ensures

pub returns-then-not-same : goal.returns-then-not-same
returns-then-not-same c = last-bad _ c.args.said _ c.looks_like_name.ensures c.if-looks_like_name.false c.same.ensures c.if-not-same.true c.bad.ensures

pub returns : goal.returns
returns c = last-dashes _ c.args.said _ c.looks_like_name.ensures c.if-looks_like_name.false c.same.ensures c.if-not-same.false c.to_stage.ensures
