-- After a cut line, of the calls: from any reader in range, and so from any that calls leave of a fresh one, the packets handed on by `feed` or in
-- lists by `feed_all`, in any mixture, each call with room. Whatever the contracts allow. Assumes nothing.
use mathlib.Core.Path.{◌≡◌, refl, ap₂}
use mathlib.Core.Bool.{Bool, true, false}
use mathlib.Core.List.{List, [], ◌∷◌}
use Prim.Native.Nat.{ℕ, ◌+◌, ◌*◌, ◌≤◌, ◌<◌}
use native.Mathlib.Omega.{arith}
use lib.Dec.{leb}
use lib.ListN.{length}
use borrow.Author.Tests.{leb-true}
use Rattle.laws.specs.Each.{Each, nil, and}
use Rattle.laws.proofs.Tests.{both_first, both-second}
use Rattle.blocks.specs.Block.{Block, blocks}
use Rattle.packet.specs.declared.Setting.{Setting}
use Rattle.packet.specs.Setting.{in_range}
use Rattle.packet.specs.Packet.{packet_length}
use Rattle.writer.specs.Cutting.{packets}
use Rattle.writer.proofs.Numbering.{packets_forty, forty_drop}
use Rattle.walk.specs.declared.Run.{Run}
use Rattle.walk.specs.declared.Run.TheVariants.{Idle, Head, Body}
use Rattle.walk.specs.Mode.{Mode, running}
use Rattle.walk.specs.Reading.{spanning}
use Rattle.walk.specs.Store.{store_length, mode_of}
use Rattle.state.specs.declared.Reader.{Reader}
use Rattle.state.specs.Acting.{State}
use Rattle.state.specs.State.{state_of, reader_of, fresh_state, page_in_range, run_in_range, joined_in_range, reader_in_range, Sixteen, Sound}
use Rattle.state.proofs.Ranging.{sound-fresh, sound-after, state_held}
use Rattle.state.proofs.Holding.{ready-kept}
use Rattle.claims.specs.Noise.{Fits}
use Rattle.claims.specs.Mingled.{Kind}
use Rattle.reader.specs.Feeding.{tuned_to}
use Rattle.claims.specs.Calls.{Starts, Feeds, FeedsAll, Fed}
use Rattle.claims.specs.CutLine.{Readable, of_other, of-header, of_row, from_there, Resumed, Behind, alone, after, unjoined, Held, Leaves, Delivered, AfterOne}
use Rattle.claims.proofs.Handing.{feeds, feeds-all, fed_of-one}
use Rattle.claims.proofs.Leaving as Leaving
use Rattle.claims.proofs.Leaving.{Holds}
use Rattle.claims.proofs.Mingling.{mingled-long}
use Rattle.claims.proofs.Calls.{starts}
use Rattle.claims.proofs.CutLine.{after-cut-line, behind_zero}

-- ---- readers in range

joined-runs : (j : Bool) (x : Run) (store : List ℕ) → joined_in_range j x ≡ true → j ≡ true → running (mode_of x store) ≡ true
joined-runs true Idle store e f = e
joined-runs false Idle store e f = f
joined-runs j (Head got bits part) store e f = refl
joined-runs j (Body head part held) store e f = refl

-- a reader that the calls take, whose 16 bits are 16 bits and whose store is 2,047 bytes, as its types say
pub in_range-held :
    (s : Setting) (r : Reader) → in_range s ≡ true → reader_in_range r ≡ true → Sixteen r.run → length r.store ≡ store_length → Held r (state_of r)
unfolding reader_in_range
in_range-held s r within e w k =
    let kept = ready-kept s r {b = true} (rw (within, e)) refl w k in
    let i = both-second (page_in_range r.page) _ e in
    let u = both-second (run_in_range r.run) _ (both-second (leb r.index 15) _ i) in
    record {
      sound =
          record {
            page = both_first (page_in_range r.page) _ e;
            index = leb-true r.index 15 (both_first (leb r.index 15) _ i);
            mode = kept.good;
            joined = joined-runs r.joined r.run r.store (both_first (joined_in_range r.joined r.run) _ u);
          };
      whole =
          ap₂ (λ (x : Run) (store : List ℕ). record { page = r.page; index = r.index; run = x; joined = r.joined; store = store }) kept.run
          kept.kept;
    }

-- ---- readers that calls leave

leaves-held : {r left : Reader} → Leaves r left → Holds Sound reader_of r → Holds Sound reader_of left
leaves-held = Leaving.leaves-held tuned_to Sound reader_of (λ s. state_held) (λ s st. refl) sound-after Feeds FeedsAll
    (λ s r next q old out h call. (feeds call).1) (λ s r next l old out h call. (feeds-all call).1)

fresh-held : {r : Reader} → Starts r → Holds Sound reader_of r
fresh-held c = (fresh_state, record { sound = sound-fresh; whole = starts c })

-- ---- the theorem

pub readable-long : (s : Setting) (kind : Kind) (q : List ℕ) → Readable s q kind → length q ≡ packet_length
readable-long s kind q (of_other long e z) = long
readable-long s kind q (of-header long e m y six z) = long
readable-long s kind q (of_row long e m y) = long

pub at_most_one :
    {m : Mode} {bs : List Block} {numbers : List ℕ} {out : List Block} → Each (λ number. number ≡ 0) numbers → Behind m bs out → AfterOne bs numbers out
at_most_one taken alone = record { taken = taken; first = []; few = omega arith; joined = nil; whole = refl }
at_most_one taken (after {b} r) =
    record { taken = taken; first = spanning true b ∷ []; few = omega arith; joined = and refl nil; whole = refl }

module _ (s : Setting) (within : in_range s ≡ true) (index k : ℕ) (low : index < 16) (least : 1 ≤ k) (most : k ≤ 25)
    (records : List ℕ) (fit : Each Fits (blocks records)) (j : ℕ) (ours qs : List (List ℕ)) (resumed : Resumed s k j (packets s index k records) ours qs)
    {r : Reader} {numbers : List ℕ} {out : List Block} (fed : Fed s r qs numbers out) where
  -- from any reader in range
  pub after-cut-line-calls :
      (st : State) → Held r st → Delivered st.mode (from_there s index k j records) numbers out
  after-cut-line-calls st h =
      let long = mingled-long (readable-long s) (forty_drop (j * (k + 1)) (packets_forty s index k records)) resumed in
      let said = fed_of-one s within fed st h.sound h.whole long in
      record { taken = said.0; comes = rw said.1 (after-cut-line s within index k low least most records fit j ours qs resumed st) }

  -- from any that calls can leave, begun from a fresh one
  pub after-cut-line-fresh :
      {fresh : Reader} → Starts fresh → Leaves fresh r → AfterOne (from_there s index k j records) numbers out
  after-cut-line-fresh start leaves =
      let held = leaves-held leaves (fresh-held start) in
      let d = after-cut-line-calls held.0 held.1 in
      at_most_one d.taken d.comes

  -- those that come out with a second byte 0 are those that were sent so, all of them and in order: only the one that was running could be another,
  -- and its second byte is 1
  pub zero-as-sent : (st : State) → Held r st → unjoined out ≡ unjoined (from_there s index k j records)
  zero-as-sent st h = behind_zero (after-cut-line-calls st h).comes
