-- `sheet_joins::turn_at` meets its contract: it is the turn of what `next_turn` found. Assumes nothing.
use lib.ListN.{drop}
use Rattle.sheet_joins.proofs.Turning.{turn-next}
use Rattle.sheet_joins.proofs.turn_at.Goals as goal

pub returns-in-Ok-Ok : goal.returns-in-Ok-Ok
returns-in-Ok-Ok c =
    let e = c.in-Ok-Ok in
    turn-next c.args.form (drop c.args.i c.args.first.now) (drop c.args.j c.args.second.now) c.next_turn-next.ensures e.is-0 e.is-1

pub returns-in-Ok-Err : goal.returns-in-Ok-Err
returns-in-Ok-Err c =
    let e = c.in-Ok-Err in
    turn-next c.args.form (drop c.args.i c.args.first.now) (drop c.args.j c.args.second.now) c.next_turn-next.ensures e.is-0 e.is-1

pub returns-in-Err-Ok : goal.returns-in-Err-Ok
returns-in-Err-Ok c =
    let e = c.in-Err-Ok in
    turn-next c.args.form (drop c.args.i c.args.first.now) (drop c.args.j c.args.second.now) c.next_turn-next.ensures e.is-0 e.is-1

pub returns-in-Err-Err : goal.returns-in-Err-Err
returns-in-Err-Err c =
    let e = c.in-Err-Err in
    turn-next c.args.form (drop c.args.i c.args.first.now) (drop c.args.j c.args.second.now) c.next_turn-next.ensures e.is-0 e.is-1
