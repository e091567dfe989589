-- `reader::held::continue_to` meets its contract. Assumes nothing.
use mathlib.Core.Path.{◌≡◌, ◌∙◌}
use borrow.Author.Rules.{rules}
use Rattle.laws.specs.Pick.{both, either}
use Rattle.walk.specs.Internal.{runs}
use Rattle.walk.proofs.Adding.{continued-to}
use Rattle.reader.proofs.held.continue_to.Goals as goal

pub returns : goal.returns
returns c m e t =
    let a = c.args in
    let d : c.if-got.dropped ≡ either a.got.dropped (both (runs a.got.run) c.falls-lost.result) = search rules in
    continued-to a.joined m a.s.now a.got t c.falls-lost.ensures c.drop_if-run.ensures (d ∙ rw e) c.finish.ensures
