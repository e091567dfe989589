-- `sheet_moves::down` meets its contract: the move's rules are its own. Assumes nothing.
use mathlib.Core.Path.{◌∙◌}
use Rattle.sheet_moves.proofs.Carried.{down_answers, down-leaves}
use Rattle.sheet_moves.proofs.down.Goals as goal

pub returns : goal.returns
returns c =
    let a = c.args in
    let e = c.carry.ensures in
    record {
      answer = e.answer ∙ down_answers a.new.now a.out.now;
      output = e.output ∙ down-leaves a.new.now a.out.now;
    }
