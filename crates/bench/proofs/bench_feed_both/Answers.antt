-- `bench::bench_feed_both` meets its contract: it says how many blocks the answer of `reader::two::feed_all` reports. Assumes nothing.
use Rattle.state.specs.declared.two.Readers.{Readers}
use Rattle.reader.specs.Two.{feed_all_heard_of_two, feed_all_out_of_two}
use Rattle.bench.specs.Feeding.{desks}
use Rattle.bench.proofs.Feeding.{all_fed}
use Rattle.bench.proofs.bench_feed_both.Goals as goal

pub returns : goal.returns
returns c =
    let f = c.feed_all-heard in
    let a = c.args in
    let it = all_fed (λ (r : Readers). feed_all_heard_of_two desks r a.packets.now a.out.now) (λ (r : Readers). feed_all_out_of_two desks r a.packets.now a.out.now)
    c.fresh-state.ensures f.ensures.heard_value f.ensures.out_after c.handed_out.ensures in
    record { count = it.0; bytes = it.1 }
