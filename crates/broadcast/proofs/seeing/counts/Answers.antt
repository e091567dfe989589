-- `broadcast::seeing::counts` meets its contract. Assumes nothing.
use mathlib.Core.Path.{ap}
use Rattle.broadcast.specs.declared.seeing.Seen.{Seen}
use Rattle.broadcast.proofs.seeing.counts.Goals as goal

pub returns : goal.returns
returns c = ap (λ (s : Seen). s.kind) c.see-seen.ensures
