-- `bench::bench_turn` meets its contract: what is still to be mixed, mixed into what is there, gives the whole. Assumes nothing.
use mathlib.Core.Path.{◌≡◌}
use lib.ListN.{drop}
use Rattle.octet.specs.Turning.{turned}
use Rattle.bench.specs.Mixing.{mixed}
use Rattle.bench.proofs.bench_turn.Given as goal

abbrev pub invariant-loop-b : goal.invariant-loop-b
invariant-loop-b l = mixed turned (drop l.b-index l.s) l.mix ≡ mixed turned l.s 0
