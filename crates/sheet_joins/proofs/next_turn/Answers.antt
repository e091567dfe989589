-- `sheet_joins::next_turn` meets its contract: a law for each way. Assumes nothing.
use lib.ListN.{drop}
use Rattle.std.specs.declared.cmp.Ordering.TheVariants.{Less, Equal, Greater}
use Rattle.std.proofs.lemmas.Cmp.{ranked}
use Rattle.sheet_joins.proofs.Turning.{next-alone, next-less, next-more, next-same, next-other}
use Rattle.sheet_joins.proofs.next_turn.Goals as goal

pub returns-in-Less : goal.returns-in-Less
returns-in-Less c =
    let e = c.in-Ok-Ok in
    next-less c.args.form (drop c.args.i c.args.first.now) (drop c.args.j c.args.second.now) e.ensures e.ensures' (ranked _ _ Less c.in-Less.ensures)

pub returns-in-Greater : goal.returns-in-Greater
returns-in-Greater c =
    let e = c.in-Ok-Ok in
    next-more c.args.form (drop c.args.i c.args.first.now) (drop c.args.j c.args.second.now) e.ensures e.ensures' (ranked _ _ Greater c.in-Greater.ensures)

pub returns-in-Equal : goal.returns-in-Equal
returns-in-Equal c =
    let e = c.in-Ok-Ok in
    next-same c.args.form (drop c.args.i c.args.first.now) (drop c.args.j c.args.second.now) e.ensures e.ensures' (ranked _ _ Equal c.in-Equal.ensures)

pub returns-in-Ok-Err : goal.returns-in-Ok-Err
returns-in-Ok-Err c =
    let e = c.in-Ok-Err in
    next-alone c.args.form (drop c.args.i c.args.first.now) (drop c.args.j c.args.second.now) e.ensures e.ensures'

pub returns-in-Err-default : goal.returns-in-Err-default
returns-in-Err-default c =
    let e = c.in-Err-default in
    next-other c.args.form (drop c.args.i c.args.first.now) (drop c.args.j c.args.second.now) e.ensures c.entry_at-2.ensures
