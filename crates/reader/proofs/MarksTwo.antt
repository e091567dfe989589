-- Packets of two streams up to a mark: the reader of the stream whose page is open takes them as it would alone, and the other's is left as it was.
-- By cases. Assumes nothing.
use mathlib.Core.Path.{◌≡◌, ◌∙◌, refl, sym, ap, subst}
use mathlib.Core.Bool.{Bool, true, false}
use mathlib.Core.List.{List, [], ◌∷◌, ◌++◌, map, map-append, append-nil, append_assoc}
use Prim.Native.Nat.{ℕ, ◌+◌, ◌-◌, ◌*◌, ◌/◌, ◌%◌, ◌≤◌, ◌<◌}
use native.Mathlib.Nat.{zero-add}
use native.Mathlib.Omega.{arith}
use native.Mathlib.Decide.{dec_lt}
use lib.Dec.{leb}
use lib.ListN.{length, take, drop, length-append}
use lib.Seq.{sets, take_at}
use Rattle.laws.specs.Pick.{pick, either}
use Rattle.laws.specs.Each.{Each, nil}
use Rattle.laws.proofs.Eaches.{each_append}
use Rattle.laws.proofs.Lists.{sets-append, sets-front}
use Rattle.laws.proofs.Tests.{either_false, either_assoc}
use Rattle.blocks.specs.Block.{Block, head_length, records_of, blocks}
use Rattle.blocks.specs.Sizes.{Sized}
use Rattle.blocks.proofs.Round.{blocks_records}
use Rattle.packet.specs.declared.Setting.{Setting}
use Rattle.packet.specs.declared.two.Streams.{Streams}
use Rattle.packet.specs.Packet.{packet_length}
use Rattle.packet.specs.Address.{address_of}
use Rattle.packet.specs.Two.{first_of, second_of, in_range_of_two}
use Rattle.pages.specs.declared.headers.Page.{Page}
use Rattle.pages.specs.declared.headers.Page.TheVariants.{Shut, Open}
use Rattle.pages.specs.declared.two.Whose.{Whose}
use Rattle.pages.specs.declared.two.Whose.TheVariants.{First, Second}
use Rattle.pages.specs.declared.two.SharedPage.{SharedPage}
use Rattle.pages.specs.declared.two.SharedPage.TheVariants.{None, One}
use Rattle.pages.specs.Headers.{Seen, junk, other, foreign, ours, packet_y}
use Rattle.pages.specs.Seen.{see, seen_as}
use Rattle.pages.specs.Two.{SeenByTwo, unreadable, passing, neither, header, numbered, whose_of, seen_by_two_as, see_by_two, seen_for, page_for, setting_for}
use Rattle.pages.specs.Judging.{verdict_of}
use Rattle.pages.proofs.Beside.{see_beside}
use Rattle.walk.specs.Mode.{Mode, Good}
use Rattle.walk.specs.Reading.{room}
use Rattle.walk.specs.Internal.{Kept}
use Rattle.walk.proofs.Keeping.{holds_kept}
use Rattle.walk.proofs.Room.{head-each}
use Rattle.state.specs.declared.two.Half.{Half}
use Rattle.state.specs.Acting.{State, pointer_of, bytes_of, act, handed, dropped}
use Rattle.state.specs.Two.{Own, TwoState, Handed, own_of, state_for, handed_from, act_of_two, handed_of_two, dropped_of_two}
use Rattle.state.proofs.Bounding.{packet-room}
use Rattle.state.proofs.Beside.{owner_of}
use Rattle.reader.specs.declared.many.Gone.{Gone}
use Rattle.reader.specs.declared.two.Pair.{Pair}
use Rattle.reader.specs.declared.many.Going.{Going}
use Rattle.reader.specs.Calls.{ran_on, run}
use Rattle.reader.specs.Feeding.{does_for}
use Rattle.reader.specs.Many.{Ran, begun}
use Rattle.reader.specs.Internal.{state_in, started, RanTo, taking, packet_at, ReachedBy, marks, Startable, WentOn}
use Rattle.reader.specs.Two.{room_of_two, stream_for, marked_all, RanOfTwo, does_for_two}
use Rattle.reader.specs.InternalTwo.{tagged, Laid, OwnIn, pair_in, RanOfTwoTo, ReachedTwo, which, owned_by, Ample, WentFor, WentOnOfTwo}
use Rattle.reader.proofs.Running.{packet_length_lem, begins, one_more, onward}
use Rattle.reader.proofs.RunningTwo.{ran-pair}
use Rattle.reader.proofs.Tagging.{tagged-length, tagged-marked, marked_append}
use Rattle.reader.proofs.Marks.{Staying, unmarked-stays, along_by}
use Rattle.reader.proofs.HeedingTwo.{heeded-sized}

-- ---- what a packet that is no mark is seen as

abbrev StayingTwo : SeenByTwo → Type 0
StayingTwo unreadable = ⊥
StayingTwo passing = Unit {0}
StayingTwo neither = ⊥
StayingTwo (header owner i n) = ⊥
StayingTwo (numbered y p l) = Unit {0}

staying_whose : (x y : Seen) → Staying x → StayingTwo (whose_of x y)
staying_whose other y t = tt
staying_whose (packet_y n p l) y t = tt
staying_whose junk y t = elim t [ ]
staying_whose foreign y t = elim t [ ]
staying_whose (ours _ _) y t = elim t [ ]

stays_two : (s : Streams) (p : List ℕ) → length p ≡ packet_length → marks (first_of s) (address_of p) ≡ false → StayingTwo (see_by_two s p)
unfolding see_by_two seen_by_two_as
stays_two s p long m =
    staying_whose (seen_as (first_of s) (address_of p) p) (seen_as (second_of s) (address_of p) p) (unmarked-stays (first_of s) p long (address_of p) m)

-- one magazine, so one stream's marks are the other's
pub marks-both : (w : Whose) (s : Streams) (x : ℕ) → marks (setting_for w s) x ≡ marks (first_of s) x
unfolding marks
marks-both First s x = refl
marks-both Second s x = refl

-- ---- one stream's state beside what is the other's

abbrev joined_in : Whose → State → TwoState → TwoState
joined_in w st o = record { page = owned_by w st.page; first = which w (own_of st) o.first; second = which w o.second (own_of st) }

owned_picked : (w : Whose) (t : Bool) (a b : Page) → owned_by w (pick t a b) ≡ pick t (owned_by w a) (owned_by w b)
owned_picked w true a b = refl
owned_picked w false a b = refl

module _ (i : ℕ) (m : Mode) (j : Bool) (o : TwoState) where
  abbrev alone : Page → State
  alone page = record { page = page; index = i; mode = m; joined = j }

  stays-act : (w : Whose) (page : Page) (x : SeenByTwo) → StayingTwo x → act_of_two (joined_in w (alone page) o) x ≡ joined_in w (act (alone page) (seen_for w x)) o
  unfolding act_of_two act
  stays-act First Shut passing t = refl
  stays-act First (Open n last) passing t = refl
  stays-act Second Shut passing t = refl
  stays-act Second (Open n last) passing t = refl
  stays-act First Shut (numbered y p l) t = refl
  stays-act Second Shut (numbered y p l) t = refl
  stays-act First (Open n last) (numbered y p l) t = rw (owned_picked First (leb y n))
  stays-act Second (Open n last) (numbered y p l) t = rw (owned_picked Second (leb y n))
  stays-act First Shut unreadable t = elim t [ ]
  stays-act First Shut neither t = elim t [ ]
  stays-act First Shut (header _ _ _) t = elim t [ ]
  stays-act First (Open n last) unreadable t = elim t [ ]
  stays-act First (Open n last) neither t = elim t [ ]
  stays-act First (Open n last) (header _ _ _) t = elim t [ ]
  stays-act Second Shut unreadable t = elim t [ ]
  stays-act Second Shut neither t = elim t [ ]
  stays-act Second Shut (header _ _ _) t = elim t [ ]
  stays-act Second (Open n last) unreadable t = elim t [ ]
  stays-act Second (Open n last) neither t = elim t [ ]
  stays-act Second (Open n last) (header _ _ _) t = elim t [ ]

  stays-handed :
      (w : Whose) (page : Page) (x : SeenByTwo) → StayingTwo x
      → handed_of_two (joined_in w (alone page) o) x ≡ map (handed_from w) (handed (alone page) (seen_for w x))
  unfolding handed_of_two handed
  stays-handed First Shut passing t = refl
  stays-handed First (Open n last) passing t = refl
  stays-handed Second Shut passing t = refl
  stays-handed Second (Open n last) passing t = refl
  stays-handed First Shut (numbered y p l) t = refl
  stays-handed Second Shut (numbered y p l) t = refl
  stays-handed First (Open n last) (numbered y p l) t = append-nil _
  stays-handed Second (Open n last) (numbered y p l) t = refl
  stays-handed First Shut unreadable t = elim t [ ]
  stays-handed First Shut neither t = elim t [ ]
  stays-handed First Shut (header _ _ _) t = elim t [ ]
  stays-handed First (Open n last) unreadable t = elim t [ ]
  stays-handed First (Open n last) neither t = elim t [ ]
  stays-handed First (Open n last) (header _ _ _) t = elim t [ ]
  stays-handed Second Shut unreadable t = elim t [ ]
  stays-handed Second Shut neither t = elim t [ ]
  stays-handed Second Shut (header _ _ _) t = elim t [ ]
  stays-handed Second (Open n last) unreadable t = elim t [ ]
  stays-handed Second (Open n last) neither t = elim t [ ]
  stays-handed Second (Open n last) (header _ _ _) t = elim t [ ]

  stays-dropped :
      (w : Whose) (page : Page) (x : SeenByTwo) → StayingTwo x → dropped_of_two (joined_in w (alone page) o) x ≡ dropped (alone page) (seen_for w x)
  unfolding dropped_of_two dropped
  stays-dropped First Shut passing t = refl
  stays-dropped First (Open n last) passing t = refl
  stays-dropped Second Shut passing t = refl
  stays-dropped Second (Open n last) passing t = refl
  stays-dropped First Shut (numbered y p l) t = refl
  stays-dropped Second Shut (numbered y p l) t = refl
  stays-dropped First (Open n last) (numbered y p l) t = either_false _
  stays-dropped Second (Open n last) (numbered y p l) t = refl
  stays-dropped First Shut unreadable t = elim t [ ]
  stays-dropped First Shut neither t = elim t [ ]
  stays-dropped First Shut (header _ _ _) t = elim t [ ]
  stays-dropped First (Open n last) unreadable t = elim t [ ]
  stays-dropped First (Open n last) neither t = elim t [ ]
  stays-dropped First (Open n last) (header _ _ _) t = elim t [ ]
  stays-dropped Second Shut unreadable t = elim t [ ]
  stays-dropped Second Shut neither t = elim t [ ]
  stays-dropped Second Shut (header _ _ _) t = elim t [ ]
  stays-dropped Second (Open n last) unreadable t = elim t [ ]
  stays-dropped Second (Open n last) neither t = elim t [ ]
  stays-dropped Second (Open n last) (header _ _ _) t = elim t [ ]

-- what is whose at the start
joined-own :
    (page : SharedPage) (first second : Own)
    → (let st : TwoState = record { page = page; first = first; second = second } in st ≡ joined_in (owner_of page) (state_for (owner_of page) st) st)
joined-own None first second = refl
joined-own (One First n last) first second = refl
joined-own (One Second n last) first second = refl

-- ---- packets one after the other, beside each other

-- what one stream's reader has come to, behind what had come of both
record Beside (w : Whose) (b₀ : RanOfTwo) (b : Ran) (c : RanOfTwo) : Type 0 where
  pub state : c.state ≡ joined_in w b.state b₀.state
  pub blocks : c.blocks ≡ b₀.blocks ++ map (handed_from w) b.blocks
  pub dropped : c.dropped ≡ either b₀.dropped b.dropped
  pub sized : Each Sized b.blocks

handed-sized : (st : State) (x : Seen) → Good st.mode → Each Sized (handed st x)
unfolding handed
handed-sized st x g = heeded-sized (verdict_of st.page st.index x) (pointer_of x) (bytes_of x) st g

beside_on :
    (w : Whose) (s : Streams) (p : List ℕ) {b₀ c : RanOfTwo} {b : Ran} → in_range_of_two s ≡ true → StayingTwo (see_by_two s p) → Good b.state.mode
    → Beside w b₀ b c → Beside w b₀ (ran_on (does_for (setting_for w s)) b p) (ran_on (does_for_two s) c p)
beside_on w s p {b₀} {c} {b} fits t g z =
    let st = b.state in
    let e = see_beside w s p fits in
    let x = see_by_two s p in
    record {
      state = rw (z.state, e) (stays-act st.index st.mode st.joined b₀.state w st.page x t);
      blocks =
          rw (z.state, e, z.blocks, stays-handed st.index st.mode st.joined b₀.state w st.page x t)
          (append_assoc b₀.blocks (map (handed_from w) b.blocks) (map (handed_from w) (handed st (seen_for w x)))
          ∙ ap (λ (l : List Handed). b₀.blocks ++ l) (sym (map-append (handed_from w) b.blocks (handed st (seen_for w x)))));
      dropped =
          rw (z.state, e, z.dropped, stays-dropped st.index st.mode st.joined b₀.state w st.page x t)
          (either_assoc b₀.dropped b.dropped (dropped st (seen_for w x)));
      sized = each_append z.sized (handed-sized st (see (setting_for w s) p) g);
    }

-- how long it is: a byte more a block
beside_long :
    (w : Whose) (s : Streams) {b₀ c : RanOfTwo} {b : Ran} → Beside w b₀ b c
    → length (marked_all s c.blocks) ≡ length (marked_all s b₀.blocks) + (length (records_of b.blocks) + length b.blocks)
beside_long w s {b₀} {c} {b} z =
    rw (z.blocks, marked_append s b₀.blocks (map (handed_from w) b.blocks), tagged-marked s w b.blocks, length-append, tagged-length (stream_for w s) b.blocks)

-- ---- what the stream's own reader has come to from a place on

pub started_for :
    (packets : List ℕ) (at limit : ℕ) (hold : List ℕ) {h k : Half} {page : Page} {f : Going} {store : List ℕ} → h ≡ k
    → f ≡ started page h.index h.run h.joined → Kept k.run store → (at ≤ length packets) × ((length packets - at) % packet_length ≡ 0)
    → limit ≤ length hold → Kept f.got.run store × Startable packets at f limit hold
started_for packets at limit hold e q k p l =
    rw (q, e) (k, record { within = p.0; even = p.1; fits = omega arith; few = omega arith; room = l })

pub gone_for :
    (w : Whose) (s : Streams) (packets : List ℕ) (limit at : ℕ) (page : SharedPage) (first second : Half) (was1 was2 old store1 store2 : List ℕ) {own : Page} {half : Half} {f : Going}
    {mine : Setting} {r : Gone Going} {new : List ℕ} → own ≡ page_for w page → half ≡ which w first second
    → f ≡ started own half.index half.run half.joined → mine ≡ setting_for w s
    → WentOn mine false packets limit at f (which w was1 was2) old r (which w store1 store2) new → which w store2 store1 ≡ which w was2 was1
    → WentFor w s packets limit at page first second was1 was2 old r store1 store2 new
gone_for w s packets limit at page first second was1 was2 old store1 store2 e h q m x y = (rw (q, e, h, m) at x, y)

map-length : (w : Whose) (l : List Block) → length (map (handed_from w) l) ≡ length l
map-length w [] = refl
map-length w (b ∷ l) = rw (map-length w l)

own_alone :
    (w : Whose) (a : Pair) (was1 was2 : List ℕ)
    → (let h : Half = which w a.first a.second in
    state_in (started (page_for w a.page) h.index h.run h.joined) (which w was1 was2) ≡ state_for w (pair_in a was1 was2))
own_alone First a was1 was2 = refl
own_alone Second a was1 was2 = refl

-- one stream's blocks put behind what had come of both
put-behind :
    (s : Streams) (w : Whose) (hs : List Handed) (bs : List Block) (all : List Handed) (old mid : List ℕ) {n : ℕ} → mid ≡ sets old 0 (marked_all s hs)
    → n ≡ length (marked_all s hs) → all ≡ hs ++ map (handed_from w) bs → sets mid n (tagged (stream_for w s) bs) ≡ sets old 0 (marked_all s all)
put-behind s w hs bs all old mid e f g =
    let bytes = marked_all s hs in
    rw (e, f, g, marked_append s hs (map (handed_from w) bs), tagged-marked s w bs)
    (ap (λ (j : ℕ). sets (sets old 0 bytes) j (tagged (stream_for w s) bs)) (sym (zero-add (length bytes)))
    ∙ sym (sets-append old 0 bytes (tagged (stream_for w s) bs)))

-- each stream's own, where one has gone on
which-first :
    (w : Whose) {u v : Own} {first half : Half} (was1 was2 store1 store2 : List ℕ) → OwnIn u half (which w store1 store2) → OwnIn v first was1
    → which w store2 store1 ≡ which w was2 was1 → OwnIn (which w u v) (which w half first) store1
which-first First was1 was2 store1 store2 x y e = x
which-first Second was1 was2 store1 store2 x y e = rw e y

which-second :
    (w : Whose) {u v : Own} {second half : Half} (was1 was2 store1 store2 : List ℕ) → OwnIn u half (which w store1 store2) → OwnIn v second was2
    → which w store2 store1 ≡ which w was2 was1 → OwnIn (which w v u) (which w second half) store2
which-second First was1 was2 store1 store2 x y e = rw e y
which-second Second was1 was2 store1 store2 x y e = x

which-kept :
    (w : Whose) (a : Pair) (was1 was2 : List ℕ) → Kept a.first.run was1 → Kept a.second.run was2
    → Kept (which w a.first a.second).run (which w was1 was2)
which-kept First a was1 was2 k l = k
which-kept Second a was1 was2 k l = l

module _ (s : Streams) (fits : in_range_of_two s ≡ true) (packets : List ℕ) (at : ℕ) (a : Pair) (was1 was2 mid hold : List ℕ) (limit : ℕ)
    (one : Kept a.first.run was1) (two : Kept a.second.run was2) (room_for : Ample a limit hold mid) (w : Whose) (store1 store2 : List ℕ) {t : Gone Going} {held : List ℕ}
    (gone : WentFor w s packets limit at a.page a.first a.second was1 was2 hold t store1 store2 held) where
  abbrev h : Half
  h = which w a.first a.second

  abbrev f : Going
  f = started (page_for w a.page) h.index h.run h.joined

  abbrev mine : Setting
  mine = setting_for w s

  kept : Kept f.got.run (which w was1 was2)
  kept = which-kept w a was1 was2 one two

  few : {b : Ran} {g : Going} {count : ℕ} {store now : List ℕ} → RanTo b (taking g count) store hold now → head_length * g.got.blocks ≤ g.got.written
  few {b} x = let e = head-each b.blocks in omega (arith, e, x.came.blocks, x.came.written)

  -- ---- its records lie in the bytes held

  abbrev Lies : ℕ → Going → List ℕ → List ℕ → Type 0
  Lies k g store now =
      (b : Ran) × (count : ℕ) × RanTo b (taking g count) store hold now × Each Sized b.blocks
      × (g.got.written + g.got.blocks ≤ 2 * (limit - room) + 2120)

  lies : Lies t.at t.going (which w store1 store2) held
  lies =
      along_by Lies
      (λ k g after x x' y y' i r m u v.
      let (b, count, z, e, q) = v in
      let p = packet_at packets k in
      let d = packet-room mine (state_in g x) p (packet_length_lem packets k i) (holds_kept _ z.holds).good in
      let n = few z in (
        ran_on (does_for mine) b p,
        count + 1,
        one_more z mine p u,
        each_append e (handed-sized b.state (see mine p) z.holds.good),
        omega (arith, d.0, d.1, n, r, u.went.written, u.went.blocks),
      ))
      gone.0.went.along (begun (state_in f (which w was1 was2)), 0, begins f hold kept refl refl refl, nil, omega arith)

  its-few : t.going.got.written + t.going.got.blocks ≤ 2 * (limit - room) + 2120
  its-few = lies.4

  abbrev written : ℕ
  written = t.going.got.written

  abbrev its-half : Half
  its-half = record { index = t.going.index; run = t.going.got.run; joined = t.going.joined }

  abbrev its_pair : SharedPage → Half → Half → Bool → Pair
  its_pair page left right d =
      record {
        page = page;
        first = left;
        second = right;
        blocks = a.blocks + t.going.got.blocks;
        written = a.written + (written + t.going.got.blocks);
        dropped = d;
      }

  -- whatever they are records of
  its-records :
      {b : Ran} {count : ℕ} → RanTo b (taking t.going count) (which w store1 store2) hold held
      → held ≡ records_of b.blocks ++ drop (length (records_of b.blocks)) hold
  its-records {b} x =
      x.came.out ∙ sets-front hold (records_of b.blocks) (omega (arith, x.came.written, gone.0.went.start.fits, room_for.held))

  pub gone-laid : (k : ℕ) → Laid k held written a.written mid
  gone-laid k =
      let (b, count, x, e, q) = lies in
      let n = tagged-length k b.blocks in (
        b.blocks,
        drop (length (records_of b.blocks)) hold,
        e,
        its-records x,
        x.came.written,
        omega (arith, n, q, x.came.written, x.came.blocks, room_for.long),
      )

  pub gone-fits : a.written + (written + t.going.got.blocks) ≤ length mid
  gone-fits = omega (arith, its-few, room_for.long)

  pub gone-few : a.blocks + t.going.got.blocks ≤ a.written + (written + t.going.got.blocks)
  gone-few = omega (arith, room_for.few)

  -- ---- and the packets come to the same as for both

  module _ (o : w ≡ owner_of a.page) {old : List ℕ} {whole : RanOfTwo} (b₀ : RanOfTwo) (w₀ : RanOfTwoTo s b₀ a (at / packet_length) was1 was2 old mid)
      (e₀ : run (does_for_two s) (length mid) ((length packets - at) / packet_length) b₀ (drop at packets) ≡ whole) where
    abbrev Comes : ℕ → Going → List ℕ → List ℕ → Type 0
    Comes k g store now =
        (b : Ran) × (count : ℕ) × RanTo b (taking g count) store hold now
        × ReachedBy (does_for_two s) (length mid) packets k (λ c. Beside w b₀ b c × (c.packets ≡ k / packet_length)) whole

    at_first : b₀.state ≡ joined_in w (state_in f (which w was1 was2)) b₀.state
    at_first =
        let p = pair_in a was1 was2 in
        let q : p ≡ joined_in w (state_for w p) p = rw o (joined-own a.page p.first p.second) in
        let r : p ≡ joined_in w (state_in f (which w was1 was2)) p = q ∙ ap (λ (st : State). joined_in w st p) (sym (own_alone w a was1 was2)) in
        subst (λ (x : TwoState). x ≡ joined_in w (state_in f (which w was1 was2)) x) (ran-pair s w₀) r

    beside_first : Beside w b₀ (begun (state_in f (which w was1 was2))) b₀
    beside_first =
        record { state = at_first; blocks = sym (append-nil b₀.blocks); dropped = sym (either_false b₀.dropped); sized = nil }

    comes : Comes t.at t.going (which w store1 store2) held
    comes =
        along_by Comes
        (λ k g after x x' y y' i r m u v.
        let (b, count, z, (c, (d, n), e)) = v in
        let p = packet_at packets k in
        let long = packet_length_lem packets k i in
        let l = beside_long w s d in
        let fe = few z in
        let r' : length (marked_all s c.blocks) + room_of_two ≤ length mid =
        omega (arith, l, fe, r, z.came.written, z.came.blocks, w₀.came.written, room_for.long) in
        let st = stays_two s p long (sym (marks-both w s (address_of p)) ∙ m refl) in (
          ran_on (does_for mine) b p,
          count + 1,
          one_more z mine p u,
          onward (does_for_two s) (length mid) packets k c i r' (beside_on w s p fits st z.holds.good d, omega (arith, n)) e,
        ))
        gone.0.went.along
        (begun (state_in f (which w was1 was2)), 0, begins f hold kept refl refl refl, (b₀, (beside_first, sym w₀.came.packets), e₀))

    module _ {k : ℕ} {new : List ℕ} {page : SharedPage} {left right : Half} {d : Bool} (i : k ≡ stream_for w s)
        (put : new ≡ sets mid a.written (tagged k (blocks (take written held)))) (p : page ≡ owned_by w t.going.page)
        (x1 : left ≡ which w its-half a.first) (x2 : right ≡ which w a.second its-half) (y : d ≡ either a.dropped t.going.got.dropped) where
      its-put : {b : Ran} {count : ℕ} → RanTo b (taking t.going count) (which w store1 store2) hold held → Each Sized b.blocks
          → new ≡ sets mid a.written (tagged (stream_for w s) b.blocks)
      its-put {b} x z =
          let q : take written held ≡ records_of b.blocks =
          rw (its-records x) (take_at (records_of b.blocks) (drop (length (records_of b.blocks)) hold) written (sym x.came.written)) in
          put ∙ rw (q, blocks_records z, i)

      came-with :
          (b : Ran) (count : ℕ) (c : RanOfTwo) → RanTo b (taking t.going count) (which w store1 store2) hold held → Beside w b₀ b c
          → c.packets ≡ t.at / packet_length → RanOfTwoTo s c (its_pair page left right d) (t.at / packet_length) store1 store2 old new
      came-with b count c x z n =
          let l = beside_long w s z in
          let bytes = marked_all s b₀.blocks in
          let g = z.state in
          let own : OwnIn (own_of b.state) its-half (which w store1 store2) = record { index = x.index; joined = x.joined; holds = x.holds } in
          let m : length c.blocks ≡ length b₀.blocks + length b.blocks =
          rw (z.blocks, length-append) (ap (λ (j : ℕ). length b₀.blocks + j) (map-length w b.blocks)) in
          record {
            page = p ∙ ap (λ (q : Page). owned_by w q) x.page ∙ sym (ap (λ (q : TwoState). q.page) g);
            first = rw (x1, g) (which-first w was1 was2 store1 store2 own w₀.first gone.1);
            second = rw (x2, g) (which-second w was1 was2 store1 store2 own w₀.second gone.1);
            came =
                record {
                  packets = sym n;
                  blocks = omega (arith, m, w₀.came.blocks, x.came.blocks);
                  written = omega (arith, l, w₀.came.written, x.came.blocks, x.came.written);
                  dropped = y ∙ ap (λ (q : Bool). either q t.going.got.dropped) w₀.came.dropped ∙ ap (λ (q : Bool). either b₀.dropped q) x.came.dropped ∙ sym z.dropped;
                  out =
                      its-put x z.sized
                      ∙ put-behind s w b₀.blocks b.blocks c.blocks old mid w₀.came.out w₀.came.written z.blocks;
                };
          }

      gone-reached : ReachedTwo s (length mid) packets t.at (its_pair page left right d) store1 store2 old new whole
      gone-reached = let (b, count, x, (c, (z, n), e)) = comes in (c, came-with b count c x z n, e)

  some : t.full ≡ true → at < t.at
  some e =
      elim (dec_lt at t.at) [
        | yes i ↦ i
        | no i ↦
            let q : t.at ≡ at = omega (arith, gone.0.went.onward) in
            absurd (omega (arith, gone.0.full e, gone.0.went.still q, room_for.one))
      ]

  pub gone-on :
      w ≡ owner_of a.page → {k : ℕ} {new : List ℕ} {page : SharedPage} {left right : Half} {d : Bool} → k ≡ stream_for w s
      → new ≡ sets mid a.written (tagged k (blocks (take written held))) → page ≡ owned_by w t.going.page → left ≡ which w its-half a.first
      → right ≡ which w a.second its-half → d ≡ either a.dropped t.going.got.dropped
      → WentOnOfTwo s packets at a was1 was2 mid (record { going = its_pair page left right d; at = t.at; address = t.address; full = t.full }) store1 store2 new
  gone-on o i put p x1 x2 y =
      let g = gone.0 in
      record {
        reached = λ old whole q. gone-reached o q.0 q.1 q.2 i put p x1 x2 y;
        onward = g.went.onward;
        within = g.went.start.within;
        even = g.went.start.even;
        fits = gone-fits;
        few = gone-few;
        some = some;
        room = λ e l. omega (arith, g.fits e l, g.went.start.few, room_for.long, room_for.one);
        met = λ e l. g.met e l;
        mark = λ e l. sym (marks-both w s t.address) ∙ (g.mark e l).1;
      }

-- so what is left still comes to the same
pub went_reached :
    (s : Streams) (packets : List ℕ) (long : ℕ) {at : ℕ} {a : Pair} {was1 was2 mid store1 store2 new old : List ℕ} {r : Gone Pair} {whole : RanOfTwo}
    → length mid ≡ long → WentOnOfTwo s packets at a was1 was2 mid r store1 store2 new → ReachedTwo s long packets at a was1 was2 old mid whole
    → ReachedTwo s long packets r.at r.going store1 store2 old new whole
went_reached s packets long {mid = mid} {store1 = store1} {store2 = store2} {new = new} {old = old} {r = r} {whole = whole} e x q =
    let y : ReachedTwo s (length mid) packets r.at r.going store1 store2 old new whole = x.reached old whole (rw e q) in
    rw e at y
