-- `bench::bench_feed` meets its contract: the packets still to be fed, fed from here, give the whole. Assumes nothing.
use mathlib.Core.Path.{◌≡◌}
use Prim.Native.Nat.{◌-◌, ◌*◌, ◌/◌, ◌<◌}
use lib.ListN.{length, drop}
use Rattle.bench.specs.Feeding.{start, wrap, each_count, each_out}
use Rattle.bench.proofs.bench_feed.Given as goal

abbrev pub invariant-loop-i : goal.invariant-loop-i
invariant-loop-i l =
    let n = length l.packets / 42 in
    (l.count < wrap) × (length l.out ≡ length l.initial.out)
    × (each_count (n - l.i) l.state (drop (42 * l.i) l.packets) l.out l.count ≡ each_count n start l.packets l.initial.out 0)
    × (each_out (n - l.i) l.state (drop (42 * l.i) l.packets) l.out ≡ each_out n start l.packets l.initial.out)
