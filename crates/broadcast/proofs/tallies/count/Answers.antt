-- `broadcast::tallies::count` meets its contract: the kind, then the kind and the network. Assumes nothing.
use mathlib.Core.Path.{◌∙◌, ap₂}
use Rattle.broadcast.specs.Internal.{noted}
use Rattle.broadcast.proofs.tallies.count.Goals as goal

pub returns : goal.returns
returns c =
    let n = c.network_at.ensures in
    let first = c.note.ensures in
    c.note-2.ensures ∙ ap₂ noted first n
