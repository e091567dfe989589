-- `words::next` meets its contract: by what may come next. Assumes nothing.
use mathlib.Core.Path.{refl}
use Rattle.words.proofs.Hearing.{heard-at}
use Rattle.words.proofs.next.Goals as goal

pub returns-in-Task : goal.returns-in-Task
returns-in-Task c = heard-at c.args.tasks.now c.args.said c.args.word.now c.in-Task.is c.args.options.now c.choose.ensures

pub returns-in-Options : goal.returns-in-Options
returns-in-Options c = heard-at c.args.tasks.now c.args.said c.args.word.now c.in-Options.is c.args.options.now c.hear.ensures

pub returns-in-Value : goal.returns-in-Value
returns-in-Value c = heard-at c.args.tasks.now c.args.said c.args.word.now c.in-Value.is c.args.options.now c.say.ensures

pub returns-in-Names : goal.returns-in-Names
returns-in-Names c = heard-at c.args.tasks.now c.args.said c.args.word.now c.in-Names.is c.args.options.now c.hear_last.ensures

pub returns-in-AllNames : goal.returns-in-AllNames
returns-in-AllNames c = heard-at c.args.tasks.now c.args.said c.args.word.now c.in-AllNames.is c.args.options.now c.name.ensures

pub returns-in-Bad : goal.returns-in-Bad
returns-in-Bad c = heard-at c.args.tasks.now c.args.said c.args.word.now c.in-Bad.is c.args.options.now refl
