-- Packets of two streams one after the other: what any reader's are. Assumes nothing.
use mathlib.Core.Path.{◌≡◌, refl}
use mathlib.Core.List.{List, [], ◌∷◌}
use Prim.Native.Nat.{ℕ, ◌+◌, ◌/◌, ◌≤◌}
use native.Mathlib.Omega.{arith}
use lib.ListN.{length, length-append}
use Rattle.packet.specs.declared.two.Streams.{Streams}
use Rattle.packet.specs.Packet.{packet_length}
use Rattle.pages.specs.Two.{see_by_two}
use Rattle.walk.specs.Internal.{Kept}
use Rattle.walk.proofs.Keeping.{holds_mode}
use Rattle.state.specs.Two.{Handed, Own, own_held, act_of_two, handed_of_two, dropped_of_two}
use Rattle.state.specs.declared.two.Half.{Half}
use Rattle.reader.specs.declared.two.Pair.{Pair}
use Rattle.reader.specs.Calls.{begun, ran_on}
use Rattle.reader.specs.Internal.{packet_at}
use Rattle.reader.specs.Two.{room_of_two, marked_all, RanOfTwo, does_for_two}
use Rattle.reader.specs.InternalTwo.{OwnIn, pair_in, none_yet, ActedOfTwo, SteppedTwo, RanOfTwoTo, ReachedTwo}
use Rattle.reader.proofs.Tagging.{marked_append}
use Rattle.reader.proofs.HeedingTwo.{both-room}
use Rattle.reader.proofs.Running.{came-on, onward}

-- ---- what has come

pub begins_two :
    (s : Streams) (a : Pair) {store1 store2 : List ℕ} (out : List ℕ) → Kept a.first.run store1 → Kept a.second.run store2 → none_yet a
    → RanOfTwoTo s (begun (pair_in a store1 store2)) a 0 store1 store2 out out
unfolding marked_all
begins_two s a out k l (x, y, z) =
    record {
      page = refl;
      first = record { index = refl; joined = refl; holds = k };
      second = record { index = refl; joined = refl; holds = l };
      came = record { packets = refl; blocks = x; written = y; dropped = z; out = refl };
    }

own_held_lem : {o : Own} {h : Half} {store : List ℕ} → OwnIn o h store → own_held h store ≡ o
own_held_lem {o} w = rw (w.index, w.joined, holds_mode o.mode w.holds)

module _ (s : Streams) {b : RanOfTwo} {a : Pair} {count : ℕ} {store1 store2 old mid : List ℕ} (w : RanOfTwoTo s b a count store1 store2 old mid) where
  pub ran-pair : pair_in a store1 store2 ≡ b.state
  ran-pair = rw (w.page, own_held_lem w.first, own_held_lem w.second)

  -- one packet more
  one-more-two :
      (p : List ℕ) {after : Pair} {now1 now2 new : List ℕ} → ActedOfTwo s p a after store1 store2 now1 now2 mid new
      → RanOfTwoTo s (ran_on (does_for_two s) b p) after (count + 1) now1 now2 old new
  one-more-two p {after} {now1} {now2} {new} x =
      let st = b.state in
      let y : SteppedTwo s (act_of_two st (see_by_two s p)) (handed_of_two st (see_by_two s p)) (dropped_of_two st (see_by_two s p)) a after now1 now2 mid new =
      rw ran-pair at x in
      record {
        page = y.page;
        first = y.first;
        second = y.second;
        came = came-on (does_for_two s) (marked_append s) w.came p y.blocks y.written y.dropped y.out;
      }

-- one packet more, and what is left still comes to the same
pub further_two :
    (s : Streams) (long : ℕ) (packets : List ℕ) (at : ℕ) {whole : RanOfTwo} {a after : Pair} {store1 store2 now1 now2 old mid new : List ℕ}
    → at + 42 ≤ length packets → a.written + room_of_two ≤ long
    → ActedOfTwo s (packet_at packets at) a after store1 store2 now1 now2 mid new
    → ReachedTwo s long packets at a store1 store2 old mid whole → ReachedTwo s long packets (at + 42) after now1 now2 old new whole
further_two s long packets at {after = after} {now1 = now1} {now2 = now2} {old = old} {new = new} h r x (b, w, e) =
    let p = packet_at packets at in
    let k : at / packet_length + 1 ≡ (at + 42) / packet_length = omega arith in
    let y : RanOfTwoTo s (ran_on (does_for_two s) b p) after (at / packet_length + 1) now1 now2 old new = one-more-two s w p x in
    onward (does_for_two s) long packets at b h (omega (arith, r, w.came.written)) (rw k at y) e

-- ---- the room

-- a block is a byte at least
marked-each : (s : Streams) (hs : List Handed) → length hs ≤ length (marked_all s hs)
unfolding marked_all
marked-each s [] = omega arith
marked-each s (h ∷ hs) = let e : length hs ≤ length (marked_all s hs) = marked-each s hs in simp length-append (omega arith)

-- one packet writes no more than the room, and a byte a block at least
pub still_room_two :
    (s : Streams) (p : List ℕ) {a after : Pair} {store1 store2 now1 now2 old new : List ℕ} → length p ≡ packet_length → Kept a.first.run store1
    → Kept a.second.run store2 → ActedOfTwo s p a after store1 store2 now1 now2 old new → a.blocks ≤ a.written
    → (after.written ≤ a.written + room_of_two) × (after.blocks ≤ after.written)
still_room_two s p {a} {store1 = store1} {store2 = store2} l k m w f =
    let st = pair_in a store1 store2 in
    let r = both-room s st p l k.good m.good in
    let t = marked-each s (handed_of_two st (see_by_two s p)) in
    (omega (arith, r, w.written), omega (arith, f, t, w.written, w.blocks))
