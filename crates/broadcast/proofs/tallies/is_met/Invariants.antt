-- `broadcast::tallies::is_met` meets its contract: the networks left are within their limits exactly when all are. Assumes nothing.
use mathlib.Core.Path.{◌≡◌}
use Prim.Native.Nat.{◌-◌}
use Rattle.laws.specs.Range.{all}
use Rattle.broadcast.proofs.Judged.{fits_at}
use Rattle.broadcast.proofs.tallies.is_met.Given as goal

abbrev pub invariant-loop-network : goal.invariant-loop-network
invariant-loop-network l =
    all (fits_at l.tally l.kind l.channel) l.network (256 - l.network) ≡ all (fits_at l.tally l.kind l.channel) 0 256
