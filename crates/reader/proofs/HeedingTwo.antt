-- What one packet gives of two streams, and what a mark does to both. Assumes nothing.
use mathlib.Core.Path.{◌≡◌, ◌∙◌, refl, ap}
use mathlib.Core.Bool.{Bool, true, false}
use mathlib.Core.List.{List, [], ◌++◌, map}
use Prim.Native.Nat.{ℕ, ◌≤◌}
use native.Mathlib.Omega.{arith}
use lib.ListN.{length}
use Rattle.laws.specs.Pick.{pick}
use Rattle.laws.specs.Each.{Each, nil}
use Rattle.blocks.specs.Block.{Block}
use Rattle.blocks.specs.Sizes.{Sized}
use Rattle.packet.specs.declared.two.Streams.{Streams}
use Rattle.packet.specs.Packet.{packet_length}
use Rattle.packet.specs.Two.{first_of, second_of}
use Rattle.packet.specs.Address.{address_of}
use Rattle.pages.specs.declared.headers.Verdict.{Verdict}
use Rattle.pages.specs.declared.two.Whose.{Whose}
use Rattle.pages.specs.declared.two.Whose.TheVariants.{First, Second}
use Rattle.pages.specs.declared.two.SharedPage.{SharedPage}
use Rattle.pages.specs.declared.two.Verdicts.{Verdicts}
use Rattle.pages.specs.Headers.{Seen, junk, other, foreign, ours, packet_y}
use Rattle.pages.specs.Seen.{see, seen_as}
use Rattle.pages.specs.Two.{SeenByTwo, unreadable, passing, neither, header, numbered, whose_of, seen_by_two_as, see_by_two, seen_for}
use Rattle.pages.specs.Verdicts.{reads_for, verdicts_of}
use Rattle.pages.specs.Internal.{second_only}
use Rattle.pages.proofs.Beside.{seen_first, seen-second-only}
use Rattle.walk.specs.Mode.{Good}
use Rattle.walk.specs.Reading.{drop_if, read_blocks}
use Rattle.walk.proofs.Along.{drop-good}
use Rattle.walk.proofs.Room.{Within}
use Rattle.state.specs.Acting.{State, spans, heeded_blocks, handed}
use Rattle.state.specs.Two.{TwoState, state_for, pointer_in, bytes_in, judged, blocks_after, handed_from, act_of_two, handed_of_two, dropped_of_two}
use Rattle.state.proofs.Handing.{read-each}
use Rattle.state.proofs.Bounding.{packet-room}
use Rattle.state.proofs.Beside.{owner_of, one_hands_out}
use Rattle.reader.specs.declared.two.Pair.{Pair}
use Rattle.reader.specs.declared.many.Going.{Going}
use Rattle.pages.specs.declared.headers.Page.{Page}
use Rattle.state.specs.declared.two.Half.{Half}
use Rattle.reader.specs.declared.two.Turned.{Turned}
use Rattle.reader.specs.Internal.{state_in, Heeded, started, marks}
use Rattle.reader.specs.Two.{stream_for, marked_all}
use Rattle.reader.specs.InternalTwo.{alone_in, pair_in, TurnedTo, ActedOfTwo}
use Rattle.laws.specs.Pick.{either}
use Rattle.reader.proofs.Tagging.{tagged-length, tagged-marked}
use Rattle.reader.proofs.Marks.{Turning, mark-turns}

-- ---- the blocks of one packet

pub heeded-sized : (v : Verdict) (p : ℕ) (l : List ℕ) (st : State) → Good st.mode → Each Sized (heeded_blocks v p l st)
heeded-sized v p l st g = go v.reads
  where
    go : (t : Bool) → Each Sized (pick t (read_blocks (spans v st) (drop_if v.drops st.mode) p l) [])
    go true = read-each Sized (λ j h part m e q. e) (spans v st) (drop_if v.drops st.mode) p l (drop-good v.drops st.mode g)
    go false = nil

module _ (s : Streams) (st : TwoState) (p : List ℕ) (whole : length p ≡ packet_length) (one : Good st.first.mode) (two : Good st.second.mode) where
  room-alone : (w : Whose) → Within (handed (state_for w st) (seen_for w (see_by_two s p)))
  unfolding see see_by_two
  room-alone First = rw (← (seen_first s (address_of p) p)) (packet-room (first_of s) (state_for First st) p whole one)
  room-alone Second = rw (← (seen-second-only s (address_of p) p)) (packet-room (second_only s) (state_for Second st) p whole two)

  -- at most one stream hands out blocks: their records and a byte a block
  pub both-room : length (marked_all s (handed_of_two st (see_by_two s p))) ≤ 2120
  both-room =
      let w = owner_of st.page in
      let bs = handed (state_for w st) (seen_for w (see_by_two s p)) in
      let f = room-alone w in
      rw (one_hands_out st (see_by_two s p), tagged-marked s w bs, tagged-length (stream_for w s) bs) (omega (arith, f.0, f.1))

-- ---- a mark

-- what one is seen as
abbrev pub TurningTwo : SeenByTwo → Type 0
TurningTwo unreadable = Unit {0}
TurningTwo passing = ⊥
TurningTwo neither = Unit {0}
TurningTwo (header owner i n) = Unit {0}
TurningTwo (numbered y p l) = ⊥

turning_whose : (x y : Seen) → Turning x → TurningTwo (whose_of x y)
turning_whose junk y t = tt
turning_whose (ours i n) y t = tt
turning_whose foreign (ours i n) t = tt
turning_whose foreign junk t = tt
turning_whose foreign other t = tt
turning_whose foreign foreign t = tt
turning_whose foreign (packet_y y p l) t = tt
turning_whose other y t = elim t [ ]
turning_whose (packet_y _ _ _) y t = elim t [ ]

turning_unread : (w : Whose) (page : SharedPage) (x : SeenByTwo) → TurningTwo x → reads_for w page x ≡ false
turning_unread w page unreadable t = refl
turning_unread w page neither t = refl
turning_unread w page (header owner i n) t = refl
turning_unread w page passing t = elim t [ ]
turning_unread w page (numbered _ _ _) t = elim t [ ]

-- what the stream's own reader makes of it, whatever page is open to it
pub turned_alone :
    (v : Verdict) (half : Half) (store : List ℕ) {f a : Going} {now : List ℕ} → v.reads ≡ false
    → f ≡ started v.page half.index half.run half.joined
    → ((p : ℕ) (l out : List ℕ) → Heeded v p l (state_in f store) f a now out out)
    → (page : Page) (p : ℕ) (l : List ℕ)
    → TurnedTo v p l (alone_in page half store)
    (record { half = record { index = a.index; run = a.got.run; joined = a.joined }; dropped = a.got.dropped }) now
turned_alone v half store {f} {a} {now} n e w page p l =
    let x : Heeded v p l (state_in (started v.page half.index half.run half.joined) store)
    (started v.page half.index half.run half.joined) a now [] [] = rw e at (w p l []) in
    record {
      own = record { index = x.index; joined = x.joined; holds = x.went.holds };
      dropped = x.went.dropped;
      blocks = rw n;
    }

module _ (s : Streams) (a : Pair) (was1 was2 p : List ℕ) (whole : length p ≡ packet_length) {v : Verdicts} {x : ℕ} (e : x ≡ address_of p)
    (f : v ≡ verdicts_of a.page a.first.index a.second.index (seen_by_two_as s x p)) (m : marks (first_of s) x ≡ true) where
  abbrev at-hand : TwoState
  at-hand = pair_in a was1 was2

  abbrev seen : SeenByTwo
  seen = see_by_two s p

  verdict : v ≡ judged at-hand seen
  unfolding see_by_two
  verdict = rw e at f

  turns : TurningTwo seen
  unfolding see_by_two seen_by_two_as
  turns = turning_whose (seen_as (first_of s) (address_of p) p) (seen_as (second_of s) (address_of p) p) (mark-turns (first_of s) p whole (address_of p) (rw e at m))

  pub first-unread : v.first.reads ≡ false
  first-unread = rw verdict (turning_unread First a.page seen turns)

  pub second-unread : v.second.reads ≡ false
  second-unread = rw verdict (turning_unread Second a.page seen turns)

  module _ {r1 r2 : Turned} {now1 now2 : List ℕ} (y : TurnedTo v.first (pointer_in seen) (bytes_in seen) (state_for First at-hand) r1 now1)
      (z : TurnedTo v.second (pointer_in seen) (bytes_in seen) (state_for Second at-hand) r2 now2) where
    silent : (w : Whose) → blocks_after w at-hand seen ≡ []
    silent First = rw verdict at y.blocks
    silent Second = rw verdict at z.blocks

    none : handed_of_two at-hand seen ≡ []
    unfolding handed_of_two
    none =
        ap (λ (l : List Block). map (handed_from First) l ++ map (handed_from Second) (blocks_after Second at-hand seen)) (silent First)
        ∙ ap (λ (l : List Block). map (handed_from Second) l) (silent Second)

    pub both-turned :
        (out : List ℕ)
        → ActedOfTwo s p a
        (record {
          page = v.page;
          first = r1.half;
          second = r2.half;
          blocks = a.blocks;
          written = a.written;
          dropped = either a.dropped (either r1.dropped r2.dropped);
        }) was1 was2 now1 now2 out out
    unfolding act_of_two dropped_of_two marked_all
    both-turned out =
        record {
          page = ap (λ (u : Verdicts). u.page) verdict;
          first = rw verdict at y.own;
          second = rw verdict at z.own;
          blocks = rw none (omega arith);
          written = rw none (omega arith);
          dropped = rw (y.dropped, z.dropped, verdict);
          out = rw none;
        }
