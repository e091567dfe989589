-- `words::choose` meets its contract: its test. Assumes nothing.
use Rattle.words.proofs.Hearing.{no-task, a-task}
use Rattle.words.proofs.choose.Goals as goal

pub returns-then-row-tasks : goal.returns-then-row-tasks
returns-then-row-tasks c = no-task _ c.args.said _ c.row_of-row.ensures c.if-row-tasks.true c.bad.ensures

pub returns : goal.returns
returns c = a-task _ c.args.said _ c.row_of-row.ensures c.if-row-tasks.false
