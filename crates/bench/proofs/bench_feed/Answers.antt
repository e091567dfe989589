-- The answers that `bench::bench_feed` wants beside its invariants. Assumes nothing.
use borrow.Author.Rules.{rules}
use mathlib.Core.Path.{◌≡◌, ◌∙◌, refl, ap}
use Prim.Native.Nat.{◌+◌, ◌-◌, ◌*◌, ◌/◌, ◌<◌}
use native.Mathlib.Omega.{arith}
use lib.ListN.{length}
use Rattle.state.specs.declared.Reader.{Reader}
use Rattle.bench.specs.Feeding.{each_count, each_out}
use Rattle.bench.proofs.Feeding.{count-on, out-on, ended-count, ended_out}
use Rattle.bench.proofs.bench_feed.Goals as goal

pub loop-i-init : goal.loop-i-init
loop-i-init c =
    let a = c.args in
    let n = length a.packets.now / 42 in
    let all : n - 0 ≡ n = omega arith in (
      omega arith,
      refl,
      rw all (ap (λ (r : Reader). each_count n r a.packets.now a.out.now 0) c.fresh-state.ensures),
      rw all (ap (λ (r : Reader). each_out n r a.packets.now a.out.now) c.fresh-state.ensures),
    )

pub loop-i-preserved : goal.loop-i-preserved
loop-i-preserved c =
    let l = c.loop-i in
    let a = c.args in
    let n = length a.packets.now / 42 in
    let f = c.feed-fed in
    let k = c.counted-count in
    let more : 0 < n - l.i = omega arith in
    let one : n - (l.i + 1) ≡ n - l.i - 1 = omega arith in
    let on : 42 * (l.i + 1) ≡ 42 * l.i + 42 = omega arith in (
      k.ensures.upper_bound,
      search rules,
      rw (one, on)
          (count-on l.state f.result.reader a.packets.now l.out _ (42 * l.i) f.ensures.reader_value f.ensures.out_after (n - l.i) l.count
          k.result f.result.heard more f.ensures.heard_value k.ensures.value
          ∙ l.invariant.2),
      rw (one, on)
          (out-on l.state f.result.reader a.packets.now l.out _ (42 * l.i) f.ensures.reader_value f.ensures.out_after (n - l.i) more
          ∙ l.invariant.3),
    )

pub returns : goal.returns
returns c =
    let l = c.loop-i in
    let none : length c.args.packets.now / 42 - l.i ≡ 0 = omega arith in
    record {
      count = ended-count _ l.state _ l.out l.count none ∙ l.invariant.2;
      bytes = ended_out _ l.state _ l.out none ∙ l.invariant.3;
    }
