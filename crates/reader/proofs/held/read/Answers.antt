-- `reader::held::read` meets its contract: the pointer decides. Assumes nothing.
use mathlib.Core.Path.{◌≡◌, ◌∙◌, ap, sym}
use mathlib.Core.Bool.{true}
use Prim.Native.Nat.{◌+◌, ◌-◌}
use native.Mathlib.Omega.{arith}
use lib.ListN.{length, get_or, take, drop, length-drop}
use Rattle.laws.proofs.Lists.{part-rest}
use Rattle.octet.specs.Decoding.{nib}
use Rattle.walk.specs.Mode.{continues}
use Rattle.walk.specs.Reading.{ended}
use Rattle.walk.specs.Store.{mode_of}
use Rattle.walk.proofs.Room.{carried_room, head-each}
use Rattle.walk.proofs.Keeping.{holds_kept}
use Rattle.walk.proofs.Adding.{runs_mode, read-pointed, read-unpointed, read-skipped}
use Rattle.reader.proofs.held.read.Goals as goal

pub returns-then-before-gt39 : goal.returns-then-before-gt39
returns-then-before-gt39 c =
    let a = c.args in
    read-skipped a.joined (mode_of a.got.run a.store.now) (nib (get_or a.packet.now 2 0)) a.packet.now a.got
    c.pointed-before.ensures c.if-before-gt39.true (c.lose.ensures a.out.now)

pub continue_to-carried-requires : goal.continue_to-carried-requires
continue_to-carried-requires c =
    let r = c.requires.packet_room in
    record { kept = holds_kept _ c.take_in-taken.ensures.holds; room = record { long = omega (arith, r.long); few = r.few } }

pub flow-requires : goal.flow-requires
flow-requires c =
    let a = c.args in
    let q = c.requires in
    let x = c.continue_to-carried.ensures _ (sym (runs_mode a.got.run a.store.now)) c.take_in-taken.ensures in
    let p = a.packet.now in
    let n = 3 + c.pointed-before.result in
    let m = mode_of a.got.run a.store.now in
    let g = carried_room true a.joined m (take (n - 3) (drop 3 p)) q.kept.good in
    let t = head-each (ended a.joined (continues true m (take (n - 3) (drop 3 p)))) in
    let k = c.continue_to-carried.auto.out in
    let l : length (take (length p - n) (drop n p)) ≡ length p - n = ap length (part-rest n p) ∙ length-drop n p in
    record {
      store_value = x.holds.kept;
      s_in_bounds = (omega (arith, x.written, g, l, k, q), omega (arith, x.written, x.blocks, t, q));
    }

pub returns-then-before-lt39 : goal.returns-then-before-lt39
returns-then-before-lt39 c =
    let a = c.args in
    let r = sym (runs_mode a.got.run a.store.now) in
    read-pointed a.joined (mode_of a.got.run a.store.now) (nib (get_or a.packet.now 2 0)) a.packet.now a.got c.pointed-before.ensures
    c.if-before-lt39.true
    (c.continue_to-carried.ensures _ r c.take_in-taken.ensures) c.flow.ensures

pub continue_on-requires : goal.continue_on-requires
continue_on-requires c =
    let r = c.requires.packet_room in
    record {
      kept = holds_kept _ c.take_in-taken.ensures.holds;
      room = record { long = omega (arith, r.long); few = r.few };
    }

pub returns : goal.returns
returns c =
    let a = c.args in
    let r = sym (runs_mode a.got.run a.store.now) in
    read-unpointed a.joined (mode_of a.got.run a.store.now) (nib (get_or a.packet.now 2 0)) a.packet.now a.got c.pointed-before.ensures
    c.requires.packet_len (omega arith) (c.continue_on.ensures _ _ r c.take_in-taken.ensures)
