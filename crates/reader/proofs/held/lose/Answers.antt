-- `reader::held::lose` meets its contract. Assumes nothing.
use mathlib.Core.Path.{◌≡◌, ◌∙◌}
use borrow.Author.Rules.{rules}
use Rattle.laws.specs.Pick.{both, either}
use Rattle.walk.specs.Internal.{runs}
use Rattle.walk.proofs.Adding.{went_none, runs_mode}
use Rattle.reader.proofs.held.lose.Goals as goal

pub returns : goal.returns
returns c =
    let a = c.args in
    let d : c.if-got.dropped ≡ either a.got.dropped (both a.t (runs a.got.run)) = search rules in
    λ out. went_none a.got c.drop_if.result out c.drop_if.ensures (d ∙ rw runs_mode)
