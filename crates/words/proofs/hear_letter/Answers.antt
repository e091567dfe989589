-- `words::hear_letter` meets its contract: its tests in order. Assumes nothing.
use Rattle.words.proofs.Hearing.{letter-unknown, letter-not-taken, letter-flag, letter-value}
use Rattle.words.proofs.hear_letter.Goals as goal

pub returns-then-k-ge-OPTIONS : goal.returns-then-k-ge-OPTIONS
returns-then-k-ge-OPTIONS c = letter-unknown _ c.args.tasks.now c.args.said _ c.option_of-k.ensures c.if-k-ge-OPTIONS.true c.bad.ensures

pub returns-then-not-takes : goal.returns-then-not-takes
returns-then-not-takes c = letter-not-taken _ _ c.args.said _ c.option_of-k.ensures c.if-k-ge-OPTIONS.false c.takes.ensures c.if-not-takes.true c.bad-then-not-takes.ensures

pub returns-then-form_of-eq-FLAG : goal.returns-then-form_of-eq-FLAG
returns-then-form_of-eq-FLAG c = letter-flag _ _ c.args.said _ c.option_of-k.ensures c.if-k-ge-OPTIONS.false c.takes.ensures c.if-not-takes.false c.form_of.ensures c.if-form_of-eq-FLAG.true c.put_one.ensures

pub returns : goal.returns
returns c = letter-value _ _ c.args.said _ c.option_of-k.ensures c.if-k-ge-OPTIONS.false c.takes.ensures c.if-not-takes.false c.form_of.ensures c.if-form_of-eq-FLAG.false c.to_stage.ensures
