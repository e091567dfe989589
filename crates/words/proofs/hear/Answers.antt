-- `words::hear` meets its contract: its tests in order. Assumes nothing.
use Rattle.words.proofs.Hearing.{not-two, not-dash, two-dashes, an-option}
use Rattle.words.proofs.hear.Goals as goal

pub returns-then-word-ne2 : goal.returns-then-word-ne2
returns-then-word-ne2 c = not-two c.args.options.now c.args.tasks.now c.args.said c.args.word.now c.if-word-ne2.true c.hear_last.ensures

pub returns-then-word-ne-DASH : goal.returns-then-word-ne-DASH
returns-then-word-ne-DASH c = not-dash c.args.options.now c.args.tasks.now c.args.said c.args.word.now c.if-word-ne2.false c.if-word-ne-DASH.true c.hear_last-then-word-ne-DASH.ensures

pub returns-then-word-eq-DASH : goal.returns-then-word-eq-DASH
returns-then-word-eq-DASH c = two-dashes c.args.options.now c.args.tasks.now c.args.said c.args.word.now c.if-word-ne2.false c.if-word-ne-DASH.false c.if-word-eq-DASH.true c.hear_last-then-word-eq-DASH.ensures

pub returns : goal.returns
returns c = an-option c.args.options.now c.args.tasks.now c.args.said c.args.word.now c.if-word-ne2.false c.if-word-ne-DASH.false c.if-word-eq-DASH.false c.hear_letter.ensures
