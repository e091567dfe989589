-- `broadcast::seeing::is_accepted` meets its contract. Assumes nothing.
use mathlib.Core.Path.{◌∙◌, sym, ap}
use Rattle.broadcast.specs.Internal.{is_accepted}
use Rattle.broadcast.proofs.seeing.is_accepted.Goals as goal

pub returns-in-Err : goal.returns-in-Err
returns-in-Err c = c.is_room.ensures ∙ sym (ap is_accepted c.in-Err.is)
