-- The reader of one stream works, so its calls in a row are what `Rows` says of any reader's. Assumes nothing.
use mathlib.Core.Path.{◌≡◌, refl}
use mathlib.Core.Bool.{true}
use mathlib.Core.List.{List}
use Prim.Native.Nat.{ℕ}
use lib.ListN.{length, take}
use Rattle.laws.specs.Each.{Each}
use Rattle.blocks.specs.Block.{Block, blocks, records_of}
use Rattle.blocks.specs.Sizes.{Sized}
use Rattle.blocks.proofs.Round.{blocks_records}
use Rattle.packet.specs.declared.Setting.{Setting}
use Rattle.packet.specs.Setting.{in_range}
use Rattle.packet.specs.Packet.{packet_length}
use Rattle.writer.specs.Cutting.{FortyTwo}
use Rattle.pages.specs.Headers.{Seen}
use Rattle.pages.specs.Seen.{see}
use Rattle.state.specs.Acting.{State, handed, dropped}
use Rattle.state.specs.State.{reader_of, Sound}
use Rattle.state.proofs.Ranging.{sound-after, state_held, reader_in_range_lem}
use Rattle.state.proofs.Handing.{handed-sized}
use Rattle.reader.specs.Feeding.{does_for, feed_heard, feed_out}
use Rattle.claims.specs.Carrying.{heard_blocks}
use Rattle.claims.specs.Feeding.{feeder_for, Call, packets_of, written_of, comes_out, dropped_of}
use Rattle.claims.proofs.Rows as Rows
use Rattle.claims.proofs.Rows.{Works, each-heard}

pub works : (s : Setting) → in_range s ≡ true → Works (feeder_for s) Sound Sized
unfolding records_of
works s i =
    record {
      fits = i;
      after = sound-after s;
      held = state_held;
      in_range = reader_in_range_lem;
      whole = λ st p r. handed-sized st (see s p) r;
      back = blocks_records;
      none = refl;
    }

-- what holds of each block that a packet gives holds of each that a list of packets gives
pub heard-each :
    (P : Block → Type 0) → ((st : State) (x : Seen) → Sound st → Each P (handed st x)) → (s : Setting) (st : State) → Sound st
    → (ps : List (List ℕ)) → Each P (heard_blocks s st ps)
unfolding heard_blocks
heard-each P each s = each-heard (does_for s) Sound P (sound-after s) (λ st p. each st (see s p))

module _ (s : Setting) (i : in_range s ≡ true) where
  pub fed-blocks :
      (st : State) → Sound st → (cs : List Call) → FortyTwo (packets_of cs) → comes_out s (reader_of st) cs ≡ heard_blocks s st (packets_of cs)
  unfolding heard_blocks
  fed-blocks = Rows.fed-blocks (feeder_for s) (works s i)

  -- a call to a reader whose state is sound
  module _ (st : State) (r : Sound st) (c : Call) (l : length c.packet ≡ packet_length) where
    pub call-blocks :
        blocks (take (written_of (feed_heard s (reader_of st) c.packet c.lent)) (feed_out s (reader_of st) c.packet c.lent))
        ≡ handed st (see s c.packet)
    call-blocks = Rows.call-blocks (feeder_for s) (works s i) st r c l

    pub call-drops : dropped_of (feed_heard s (reader_of st) c.packet c.lent) ≡ dropped st (see s c.packet)
    call-drops = Rows.call-drops (feeder_for s) (works s i) st r c l
