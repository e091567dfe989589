-- `texts::same` meets its contract: the library's test is the definition. Assumes nothing.
use Rattle.std.proofs.Common.{◌∙◌}
use Rattle.texts.proofs.Walking.{same_is}
use Rattle.texts.proofs.same.Goals as goal

pub returns : goal.returns
returns c = c.eq.ensures ∙ same_is c.args.text.now c.args.other.now
