-- `sheet_moves::up` meets its contract: no number is lost, and no result too long. Assumes nothing.
use mathlib.Core.Path.{◌∙◌}
use Rattle.sheet_moves.proofs.Carried.{up-answers, up-leaves}
use Rattle.sheet_moves.proofs.up.Goals as goal

pub returns : goal.returns
returns c =
    let a = c.args in
    let e = c.carry.ensures in
    record {
      answer = e.answer ∙ up-answers a.old.now a.out.now;
      output = e.output ∙ up-leaves a.old.now a.out.now;
    }
