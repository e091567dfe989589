-- `reader::many::heed` meets its contract. Assumes nothing.
use mathlib.Core.Path.{◌≡◌, ◌∙◌, sym, ap}
use mathlib.Core.Bool.{Bool}
use native.Mathlib.Omega.{arith}
use lib.ListN.{get_or, drop}
use Rattle.octet.specs.Decoding.{nib}
use Rattle.blocks.specs.Block.{records_of}
use Rattle.walk.proofs.Keeping.{holds_kept}
use Rattle.walk.proofs.Adding.{runs_mode}
use Rattle.walk.specs.Reading.{spans_still}
use Rattle.state.specs.Acting.{spans_by, spans}
use Rattle.reader.specs.Internal.{state_in}
use Rattle.reader.proofs.Heeding.{heed-only, heed-read}
use Rattle.reader.proofs.many.heed.Goals as goal

pub read-next-requires : goal.read-next-requires
unfolding records_of
read-next-requires c =
    let w = c.lose-got.ensures c.args.out.now in
    let q = c.requires.packet_room in
    record {
      kept = holds_kept _ w.holds;
      packet_len = c.requires.packet_len;
      packet_room = record { long = omega (arith, w.written, q.long); few = omega (arith, w.written, w.blocks, q.few) };
    }

pub returns-then-v : goal.returns-then-v
returns-then-v c =
    let spanned-c : ((let a = c.args in c.spans-joined.result ≡ spans a.v (state_in a.a a.store.now))) = (let a = c.args in
    c.spans-joined.ensures
    ∙ ap (λ (b : Bool). spans_by a.v b a.a.joined) (c.is_running-ran.ensures ∙ sym (runs_mode a.a.got.run a.store.now))) in
    let a = c.args in
    heed-read a.v (nib (get_or a.packet.now 2 0)) (drop 3 a.packet.now) (state_in a.a a.store.now)
    (c.lose-got.ensures a.out.now) c.if-v.true spanned-c
    c.read-next.ensures (c.goes_on.ensures ∙ ap (spans_still c.spans-joined.result (nib (get_or a.packet.now 2 0))) c.is_running-runs.ensures)

pub returns : goal.returns
returns c =
    let spanned-c : ((let a = c.args in c.spans-joined.result ≡ spans a.v (state_in a.a a.store.now))) = (let a = c.args in
    c.spans-joined.ensures
    ∙ ap (λ (b : Bool). spans_by a.v b a.a.joined) (c.is_running-ran.ensures ∙ sym (runs_mode a.a.got.run a.store.now))) in
    let a = c.args in
    heed-only a.v (nib (get_or a.packet.now 2 0)) (drop 3 a.packet.now) (state_in a.a a.store.now)
    (c.lose-got.ensures a.out.now) c.if-v.false spanned-c
