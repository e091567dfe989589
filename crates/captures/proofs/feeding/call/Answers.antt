-- `captures::feeding::call` meets its contract: the answer is one stream's or two's. Assumes nothing.
use Rattle.captures.proofs.Fed.{answered-one, answered-two}
use Rattle.captures.proofs.feeding.call.Goals as goal

pub returns-then-is_one : goal.returns-then-is_one
returns-then-is_one c =
    let a = c.args in
    let h = c.feed_all-heard.ensures in
    let it = answered-one a.setting a.reader a.readers a.packets.now a.out.now c.is_one.ensures c.if-is_one.true
    c.first-one.ensures h.heard_value h.reader_value h.out_after in
    record { value = it.0; out_after = it.1 }

pub returns : goal.returns
returns c =
    let a = c.args in
    let h = c.feed_all-heard-2.ensures in
    let it = answered-two a.setting a.reader a.readers a.packets.now a.out.now c.is_one.ensures c.if-is_one.false h.heard_value h.readers_value h.out_after in
    record { value = it.0; out_after = it.1 }
