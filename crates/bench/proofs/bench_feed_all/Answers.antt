-- `bench::bench_feed_all` meets its contract: it says how many blocks the answer of `reader::feed_all` reports. Assumes nothing.
use Rattle.state.specs.declared.Reader.{Reader}
use Rattle.reader.specs.Many.{feed_all_heard, feed_all_out}
use Rattle.bench.specs.Feeding.{desk}
use Rattle.bench.proofs.Feeding.{all_fed}
use Rattle.bench.proofs.bench_feed_all.Goals as goal

pub returns : goal.returns
returns c =
    let f = c.feed_all-heard in
    let a = c.args in
    let it = all_fed (λ (r : Reader). feed_all_heard desk r a.packets.now a.out.now) (λ (r : Reader). feed_all_out desk r a.packets.now a.out.now)
    c.fresh-state.ensures f.ensures.heard_value f.ensures.out_after c.handed_out.ensures in
    record { count = it.0; bytes = it.1 }
