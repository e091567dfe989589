-- `bench::bench_decode` meets its contract: what is still to be mixed, mixed into what is there, gives the whole. Assumes nothing.
use mathlib.Core.Path.{◌≡◌}
use lib.ListN.{drop}
use Rattle.octet.specs.Decoding.{nib}
use Rattle.bench.specs.Mixing.{mixed}
use Rattle.bench.proofs.bench_decode.Given as goal

abbrev pub invariant-loop-b : goal.invariant-loop-b
invariant-loop-b l = mixed nib (drop l.b-index l.s) l.mix ≡ mixed nib l.s 0
