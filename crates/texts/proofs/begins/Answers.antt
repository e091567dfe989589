-- `texts::begins` meets its contract: the library's test is the definition. Assumes nothing.
use Rattle.std.proofs.Common.{◌∙◌}
use Rattle.texts.proofs.Walking.{begins_is}
use Rattle.texts.proofs.begins.Goals as goal

pub returns : goal.returns
returns c = c.starts_with.ensures.value ∙ begins_is c.args.part.now c.args.text.now
