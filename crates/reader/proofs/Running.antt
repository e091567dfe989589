-- Packets one after the other, whatever a packet does: one more is one step of the definition, and where there is no room for one, or none is left,
-- it has ended. Then of one stream, where those of other magazines are passed by. Assumes nothing.
use mathlib.Core.Path.{◌≡◌, ◌∙◌, refl, sym, ap}
use mathlib.Core.Bool.{Bool, true, false}
use mathlib.Core.List.{List, ◌++◌}
use Prim.Native.Nat.{ℕ, zero, suc, ◌+◌, ◌-◌, ◌*◌, ◌/◌, ◌%◌, ◌≤◌, ◌<◌}
use native.Mathlib.Nat.{zero-add, le_refl}
use native.Mathlib.Omega.{arith}
use lib.ListN.{length, take, drop, length-append, length-drop}
use lib.Seq.{sets, drop-drop, length-take-le, take_all, take-append_seam, drop-append_seam}
use borrow.Author.Tests.{le-leb, lt-leb}
use Rattle.laws.specs.Pick.{either}
use Rattle.laws.proofs.Lists.{sets-append, part_of}
use Rattle.blocks.specs.Block.{head_length, records_of}
use Rattle.packet.specs.declared.Setting.{Setting}
use Rattle.packet.specs.Packet.{packet_length}
use Rattle.packet.specs.Address.{address_of, elsewhere}
use Rattle.reader.specs.declared.many.Going.{Going}
use Rattle.pages.specs.Seen.{see}
use Rattle.state.specs.Acting.{State, handed}
use Rattle.walk.specs.Reading.{room}
use Rattle.reader.specs.Calls as Calls
use Rattle.reader.specs.Calls.{Does, ran_on, run, handed_bytes}
use Rattle.reader.specs.Feeding.{does_for}
use Rattle.reader.specs.Many.{Ran, begun}
use Rattle.walk.specs.Internal.{Kept}
use Rattle.walk.specs.Mode.{Good}
use Rattle.reader.specs.Internal.{CameTo, ReachedBy, Acted, state_in, RanTo, taking, packet_at, Reached, OthersOnly, none_passed, one-passed, Passed}
use Rattle.walk.proofs.Keeping.{holds_mode}
use Rattle.walk.proofs.Adding.{records_of-append}
use Rattle.walk.proofs.Room.{head-each}
use Rattle.state.proofs.Bounding.{packet-room}

-- a packet's part of the list
pub packet_length_lem : (packets : List ℕ) (at : ℕ) → at + 42 ≤ length packets → length (take (at + 42 - at) (drop at packets)) ≡ packet_length
packet_length_lem packets at h = rw (part_of at 42 packets) (length-take-le 42 (drop at packets) (rw length-drop (omega arith)))

-- ---- whatever a packet does

module _ {S B : Type 0} (d : Does S B) where
  -- where there is no room for one packet more, however many are left
  no_more : (long n : ℕ) (b : Calls.Ran S B) (l : List ℕ) → long < length (d.bytes b.blocks) + d.room → b ≡ run d long n b l
  no_more long zero b l h = refl
  no_more long (suc n) b l h = rw (lt-leb _ _ h)

  module _ (long : ℕ) (packets : List ℕ) (at : ℕ) (b : Calls.Ran S B) where
    pub run-full :
        long < length (d.bytes b.blocks) + d.room → b ≡ run d long ((length packets - at) / packet_length) b (drop at packets)
    run-full h = no_more long ((length packets - at) / packet_length) b (drop at packets) h

    -- where there is room for one packet more
    run_on :
        at + 42 ≤ length packets → length (d.bytes b.blocks) + d.room ≤ long
        → run d long ((length packets - (at + 42)) / packet_length) (ran_on d b (packet_at packets at)) (drop (at + 42) packets)
        ≡ run d long ((length packets - at) / packet_length) b (drop at packets)
    run_on h r =
        let e : (length packets - at) / packet_length ≡ suc ((length packets - (at + 42)) / packet_length) = omega arith in
        rw (e, le-leb _ _ r, part_of at 42 packets, drop-drop)

    -- where none is left
    pub run_out : length packets ≤ at → b ≡ run d long ((length packets - at) / packet_length) b (drop at packets)
    run_out h = let e : (length packets - at) / packet_length ≡ 0 = omega arith in rw e

    -- one packet more, and what is left still comes to the same
    pub onward :
        {Has : Calls.Ran S B → Type 0} {whole : Calls.Ran S B} → at + 42 ≤ length packets → length (d.bytes b.blocks) + d.room ≤ long
        → Has (ran_on d b (packet_at packets at)) → run d long ((length packets - at) / packet_length) b (drop at packets) ≡ whole
        → ReachedBy d long packets (at + 42) Has whole
    onward h r x e = (ran_on d b (packet_at packets at), x, run_on h r ∙ e)

  -- a list of one packet
  pub run-one :
      (long : ℕ) (b : Calls.Ran S B) (p : List ℕ) → length p ≡ packet_length → length (d.bytes b.blocks) + d.room ≤ long
      → run d long (length p / packet_length) b p ≡ ran_on d b p
  run-one long b p h r = rw (h, le-leb _ _ r, take_all packet_length p (omega (arith, h)))

  -- what one packet more adds
  module _ (append : (xs ys : List B) → d.bytes (xs ++ ys) ≡ d.bytes xs ++ d.bytes ys) {b : Calls.Ran S B} {count blocks written : ℕ} {drops : Bool} {old mid : List ℕ}
      (w : CameTo d.bytes b count blocks written drops old mid) (p : List ℕ) where
    -- its bytes go behind those there
    laid_on :
        (l : List ℕ)
        → sets (sets old 0 (d.bytes b.blocks)) (length (d.bytes b.blocks)) l ≡ sets old 0 (d.bytes b.blocks ++ l)
    laid_on l =
        let there = d.bytes b.blocks in
        ap (λ (k : ℕ). sets (sets old 0 there) k l) (sym (zero-add (length there))) ∙ sym (sets-append old 0 there l)

    pub came-on :
        {blocks' written' : ℕ} {drops' : Bool} {new : List ℕ} → blocks' ≡ blocks + length (d.handed b.state p)
        → written' ≡ written + length (handed_bytes d b.state p) → drops' ≡ either drops (d.dropped b.state p)
        → new ≡ sets mid written (handed_bytes d b.state p) → CameTo d.bytes (ran_on d b p) (count + 1) blocks' written' drops' old new
    came-on x y z n =
        record {
          packets = rw w.packets (omega arith);
          blocks = x ∙ rw (w.blocks, length-append);
          written = y ∙ rw (w.written, append b.blocks (d.handed b.state p), length-append);
          dropped = z ∙ rw w.dropped;
          out = n ∙ rw (w.out, w.written, append b.blocks (d.handed b.state p)) (laid_on (handed_bytes d b.state p));
        }

-- ---- of one stream

pub begins :
    (a : Going) {store : List ℕ} (out : List ℕ) → Kept a.got.run store → a.got.blocks ≡ 0 → a.got.written ≡ 0
    → a.got.dropped ≡ false → RanTo (begun (state_in a store)) (taking a 0) store out out
unfolding records_of
begins a out k x y z =
    record {
      page = refl;
      index = refl;
      joined = refl;
      holds = k;
      came = record { packets = refl; blocks = x; written = y; dropped = z; out = refl };
    }

module _ {b : Ran} {a : Going} {count : ℕ} {store old mid : List ℕ} (w : RanTo b (taking a count) store old mid) where
  ran-state : state_in a store ≡ b.state
  ran-state = rw (w.page, w.index, w.joined, holds_mode b.state.mode w.holds)

  -- one packet more
  pub one_more :
      (s : Setting) (p : List ℕ) {after : Going} {store' new : List ℕ} → Acted (see s p) (state_in a store) a after store' mid new
      → RanTo (ran_on (does_for s) b p) (taking after (count + 1)) store' old new
  one_more s p {after} {store'} {new} x =
      let y : Acted (see s p) b.state a after store' mid new = rw ran-state at x in
      record {
        page = y.page;
        index = y.index;
        joined = y.joined;
        holds = y.went.holds;
        came = came-on (does_for s) records_of-append w.came p y.went.blocks y.went.written y.went.dropped y.went.out;
      }

pub further :
    (s : Setting) (long : ℕ) (packets : List ℕ) (at : ℕ) {whole : Ran} {a after : Going} {store store' old mid new : List ℕ}
    → at + 42 ≤ length packets → a.got.written + room ≤ long
    → Acted (see s (packet_at packets at)) (state_in a store) a after store' mid new
    → Reached s long packets at a store old mid whole → Reached s long packets (at + 42) after store' old new whole
further s long packets at {after = after} {store' = store'} {old = old} {new = new} h r x (b, w, e) =
    let p = packet_at packets at in
    let k : at / packet_length + 1 ≡ (at + 42) / packet_length = omega arith in
    let y : RanTo (ran_on (does_for s) b p) (taking after (at / packet_length + 1)) store' old new = one_more w s p x in
    onward (does_for s) long packets at b h (omega (arith, r, w.came.written)) (rw k at y) e

-- nothing has been passed by yet
pub passed_none : (s : Setting) (packets : List ℕ) (at : ℕ) → at ≤ length packets → (length packets - at) % packet_length ≡ 0 → Passed s packets at at
passed_none s packets at h e = record { onward = le_refl at; within = h; even = e; by = none_passed }

-- a packet more is another magazine's
pub passed-one :
    (s : Setting) (packets : List ℕ) (from at : ℕ) {x : ℕ} → Passed s packets from at → at + 42 ≤ length packets
    → x ≡ address_of (packet_at packets at) → elsewhere s x ≡ true → Passed s packets from (at + 42)
passed-one s packets from at p h e t =
    record { onward = omega (arith, p.onward); within = h; even = omega (arith, p.even, h); by = one-passed p.by h (rw e at t) }

-- what each of them keeps, all of them keep
pub passed_by :
    {s : Setting} {packets : List ℕ} {from at : ℕ} (Step : ℕ → Type 0)
    → ((k : ℕ) → k + packet_length ≤ length packets → elsewhere s (address_of (packet_at packets k)) ≡ true → Step k → Step (k + packet_length))
    → OthersOnly s packets from at → Step from → Step at
passed_by Step keeps none_passed x = x
passed_by Step keeps (one-passed {at = k} w h e) x = keeps k h e (passed_by Step keeps w x)

-- ---- the room

-- one packet writes no more than the room, and a head a block at least
pub still_room :
    (s : Setting) (p : List ℕ) (st : State) {a after : Going} {store old new : List ℕ} → Good st.mode → length p ≡ packet_length
    → Acted (see s p) st a after store old new → head_length * a.got.blocks ≤ a.got.written
    → (after.got.written ≤ a.got.written + room) × (head_length * after.got.blocks ≤ after.got.written)
still_room s p st g l w f =
    let r = packet-room s st p l g in
    let t = head-each (handed st (see s p)) in
    (omega (arith, w.went.written), omega (arith, w.went.written, w.went.blocks))

-- ---- the packets as chunks

-- a chunk at the front of what is left is the packet at that place, and the next stands behind it
pub chunk_on :
    (packets : List ℕ) (at : ℕ) {x left : List ℕ} → drop at packets ≡ x ++ left → length x ≡ packet_length
    → (x ≡ packet_at packets at) × (left ≡ drop (at + packet_length) packets) × (at + packet_length ≤ length packets)
chunk_on packets at {x} {left} e k =
    let whole : length packets - at ≡ length x + length left = sym (length-drop at packets) ∙ ap length e ∙ length-append x left in (
      rw (part_of at packet_length packets, e, ← k) (sym (take-append_seam x left)),
      rw (← (drop-drop packet_length at packets), e, ← k) (sym (drop-append_seam x left)),
      omega (arith, whole, k),
    )
