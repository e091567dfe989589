-- `reader::held::continue_on` meets its contract. Assumes nothing.
use mathlib.Core.Path.{◌≡◌, ◌∙◌}
use mathlib.Core.Bool.{not}
use borrow.Author.Rules.{rules}
use Rattle.laws.specs.Pick.{both, either}
use Rattle.walk.specs.Internal.{runs}
use Rattle.walk.proofs.Adding.{continued-on}
use Rattle.reader.proofs.held.continue_on.Goals as goal

pub returns : goal.returns
returns c m l e t =
    let a = c.args in
    let d : c.if-got.dropped ≡ either a.got.dropped (both (runs a.got.run) (not (runs a.taken.run))) = search rules in
    continued-on a.joined m l a.got t (d ∙ rw e) c.finish.ensures
