-- Blocks cut by our writer come through noise: what comes out of a fresh reader is what was sent, as it landed, in order, each once, and a
-- block is lost only where two flips are allowed. One induction along the pages for every number of flips and every page length; at each
-- packet the reader stands where the walk without loss does, or has dropped. Assumes nothing.
use mathlib.Core.Path.{◌≡◌, ◌∙◌, refl, sym, ap, subst, subst₂}
use mathlib.Core.Bool.{Bool, true, false, not}
use mathlib.Core.Logic.{◌⊎◌, inl, inr}
use mathlib.Core.List.{List, [], ◌∷◌, ◌++◌, map}
use Prim.Native.Nat.{ℕ, zero, suc, ◌+◌, ◌*◌, ◌%◌, ◌≤◌, ◌<◌}
use native.Mathlib.Omega.{arith}
use lib.Dec.{eqb, leb}
use lib.ListN.{length, drop, length-map}
use lib.Seq.{drop-drop}
use borrow.Author.Tests.{le-leb, le-ltb, eq-eqb, ne_eqb}
use Rattle.laws.specs.Each.{Each}
use Rattle.laws.specs.Pick.{pick, both, either}
use Rattle.laws.proofs.Picks.{same}
use Rattle.laws.proofs.Tests.{both_false}
use Rattle.octet.specs.Decoding.{undecodable}
use Rattle.blocks.specs.Block.{Block}
use Rattle.packet.specs.declared.Setting.{Setting}
use Rattle.packet.specs.Packet.{packet_zero}
use Rattle.symbols.specs.Stream.{Symbol, byte_of, per_packet, stream_of, grab, pointer_of}
use Rattle.writer.specs.Cutting.{data_packet, data_packets, after_packets, pages, pages_for}
use Rattle.writer.proofs.Aligned.{Celled, stream_celled, after_celled, celled_aligned}
use Rattle.writer.proofs.Counting.{covered}
use Rattle.writer.proofs.Filling.{length-grab, before_le}
use Rattle.pages.specs.declared.headers.Page.TheVariants.{Shut, Open}
use Rattle.walk.specs.Mode.{off, scan, running}
use Rattle.pages.specs.Headers.{Seen, junk, other, foreign, ours, packet_y}
use Rattle.pages.specs.Seen.{see}
use Rattle.state.specs.Acting.{State, act, handed}
use Rattle.pages.specs.Judging.{incomplete, breaks}
use Rattle.walk.specs.Reading.{drop_if, read_mode, read_blocks, read_joined}
use Rattle.state.specs.State.{fresh_state}
use Rattle.claims.specs.Noise.{Hears, Near, Aired, Came, over, Fits}
use Rattle.claims.specs.Mingled.{Kind, elsewhere, header, row, Mingled, ended, sent, between, begins, goes, Rightly, Shared}
use Rattle.claims.specs.Damage.{Placed, placed, byte_in, carried_in, stream_in, sendings, landed}
use Rattle.claims.specs.Carrying.{heard_blocks}
use Rattle.claims.proofs.Losing.{near-length, lost-all, came-append}
use Rattle.claims.proofs.Telling.{Told, symbol_of, came_of, told, told-append, told_came, told-symbols, told_noisy, told_paged, bytes_placed}
use Rattle.claims.proofs.Landing.{packet_bytes_lem, stream-near}
use Rattle.claims.proofs.Walking.{Plain, Blocks}
use Rattle.claims.proofs.Carrying.{idle, gone}
use Rattle.claims.proofs.Marking.{sent_out, first_le, Spot, moved, leafed}
use Rattle.claims.proofs.Packet.{Stands, Heard, heard-packet, lost-packet}
use Rattle.claims.proofs.Hearing.{zero-heard, packet-heard, PacketHeard, read, skipped, unread, Beside, passed, named, numbered, high, lost, rightly-heard}
use Rattle.claims.proofs.Mingling.{mingled-paired, aired_shared}
use Rattle.claims.proofs.Sending.{Sends, stream-sends, Split, split}

-- ---- where the reader stands

-- before a packet 0 with this index: no page of ours is incomplete, and the index follows ours, or nothing can be dropped by it
pub record Ready (L : Type 0) (m : Spot) (index : ℕ) (st : State) : Type 0 where
  pub whole : incomplete st.page ≡ false
  pub stands : Stands L m st.mode st.joined
  pub follows : (st.mode ≡ off) ⊎ ((st.index + 1) % 16 ≡ index)

-- in a page of k packets with this index, after packet `last`; or, where loss is allowed, the page was dropped
pub data Inside (L : Type 0) (k : ℕ) (m : Spot) (index last : ℕ) (st : State) : Type 0 where
  opened : st.page ≡ Open k last → st.index ≡ index → Stands L m st.mode st.joined → Inside L k m index last st
  shut : L → st.page ≡ Shut → st.mode ≡ off → st.joined ≡ false → Inside L k m index last st

-- ---- what the packets do

act_junk : (st : State) → act st junk ≡ record { page = Shut; index = st.index; mode = off; joined = false }
unfolding act
act_junk st = refl

pub act-other : (st : State) → act st other ≡ st
unfolding act
act-other st = refl

pub act_foreign :
    (st : State)
    → act st foreign
    ≡ record {
      page = Shut;
      index = st.index;
      mode = drop_if (incomplete st.page) st.mode;
      joined = pick (incomplete st.page) false st.joined;
    }
unfolding act
act_foreign st = refl

ready_junk : {L : Type 0} {m : Spot} {index : ℕ} (st : State) → L → Ready L m index (act st junk)
ready_junk st x = rw act_junk (record { whole = refl; stands = record { mode = gone x; joined = refl }; follows = inl refl })

ready_foreign : {L : Type 0} {m : Spot} {index : ℕ} (st : State) → Ready L m index st → Ready L m index (act st foreign)
ready_foreign st r = rw (act_foreign, r.whole) (record { whole = refl; stands = r.stands; follows = r.follows })

inside_junk : {L : Type 0} {k : ℕ} {m : Spot} {index last : ℕ} (st : State) → L → Inside L k m index last (act st junk)
inside_junk st x = rw act_junk (shut x refl refl refl)

-- a page that is full, or was dropped, is ready for the next
next-ready :
    {L : Type 0} (k : ℕ) {m : Spot} {index : ℕ} (st : State) → Inside L k m index k st → Ready L m ((index + 1) % 16) st
next-ready k st (opened p i b) =
    record { whole = rw p (le-ltb k k (omega arith)); stands = b; follows = inr (ap (λ (x : ℕ). (x + 1) % 16) i) }
next-ready k st (shut x p o j) =
    record { whole = rw p refl; stands = record { mode = rw o (gone x); joined = j ∙ rw o }; follows = inl o }

-- our packet 0 opens the page: what runs then began in an earlier one
opens_idle : (b n : Bool) → pick b false false ≡ both (running (drop_if b off)) n
opens_idle true n = refl
opens_idle false n = refl

opens-runs : (r n : Bool) → either r (both r n) ≡ both r true
opens-runs true n = refl
opens-runs false n = refl

act_ours :
    {L : Type 0} (k : ℕ) (m : Spot) (index : ℕ) (st : State) → k ≤ 25 → m.first ≤ m.page → Ready L m index st
    → Inside L k (leafed m) index 0 (act st (ours index k))
unfolding act
act_ours {L} k m index st small early r = opened (rw (le-leb k 25 small)) refl (go r.follows)
  where
    later : m.first ≡ suc m.page → ⊥
    later e = omega arith

    go :
        (st.mode ≡ off) ⊎ ((st.index + 1) % 16 ≡ index)
        → Stands L (leafed m) (drop_if (breaks st.page st.index index k) st.mode)
        (pick (breaks st.page st.index index k) false (either (both (leb k 25) (running st.mode)) st.joined))
    go (inl e) =
        let f : st.joined ≡ false = r.stands.joined ∙ rw e in
        record {
          mode = rw (e, same (breaks st.page st.index index k) {a = off} refl refl) (rw e at r.stands.mode);
          joined = rw (e, f, both_false) (opens_idle (breaks st.page st.index index k) (not (eqb m.first (suc m.page))));
        }
    go (inr e) =
        record {
          mode = rw (r.whole, le-ltb 25 k small, e, eq-eqb index index refl) r.stands.mode;
          joined =
              rw (
                r.whole,
                le-ltb 25 k small,
                e,
                eq-eqb index index refl,
                le-leb k 25 small,
                r.stands.joined,
                ne_eqb m.first (suc m.page) later,
              )
              (opens-runs (running st.mode) (not (eqb m.first m.page)));
        }

-- packet last + 1 of an open page is read
pub act-packet :
    (k last p : ℕ) (cs : List ℕ) (st : State) → st.page ≡ Open k last → suc last ≤ k
    → act st (packet_y (suc last) p cs)
    ≡ record {
      page = Open k (suc last);
      index = st.index;
      mode = read_mode st.mode p cs;
      joined = read_joined st.joined st.mode p cs;
    }
unfolding act
act-packet k last p cs st e h = rw (e, eq-eqb (suc last) (last + 1) (omega arith), le-leb (suc last) k h)

pub handed-packet :
    (k last p : ℕ) (cs : List ℕ) (st : State) → st.page ≡ Open k last → suc last ≤ k
    → handed st (packet_y (suc last) p cs) ≡ read_blocks st.joined st.mode p cs
unfolding handed
handed-packet k last p cs st e h = rw (e, eq-eqb (suc last) (last + 1) (omega arith), le-leb (suc last) k h)

pub act-shut : (y p : ℕ) (cs : List ℕ) (st : State) → st.page ≡ Shut → act st (packet_y y p cs) ≡ st
unfolding act
act-shut y p cs st e = rw e

pub handed-shut : (y p : ℕ) (cs : List ℕ) (st : State) → st.page ≡ Shut → handed st (packet_y y p cs) ≡ []
unfolding handed
handed-shut y p cs st e = rw e

handed_junk : (st : State) → handed st junk ≡ []
unfolding handed
handed_junk st = refl

pub handed-other : (st : State) → handed st other ≡ []
unfolding handed
handed-other st = refl

handed_foreign : (st : State) → handed st foreign ≡ []
unfolding handed
handed_foreign st = refl

pub handed_ours : (st : State) (index n : ℕ) → handed st (ours index n) ≡ []
unfolding handed
handed_ours st index n = refl

-- the state after a packet, and what came of the blocks that the walk without loss gives in it
pub record Took (L : Type 0) (P : State → Type 0) (a : List Block) (st : State) (x : Seen) : Type 0 where
  pub state : P (act st x)
  pub blocks : Blocks L a (handed st x)

-- between two pages of ours; where another page has begun, ours is shut
abbrev pub Aside : (State → Type 0) → Bool → State → Type 0
Aside P false st = P st
Aside P true st = P st × (st.page ≡ Shut)

module _ (L : Type 0) (P : State → Type 0) (drops : (st : State) → L → P (act st junk)) where
  -- a packet of another magazine leaves the reader where it stands, or, unreadable, drops
  elsewhere-takes : (st : State) {x : Seen} → Beside L elsewhere x → P st → Took L P [] st x
  elsewhere-takes st passed r = record { state = rw act-other r; blocks = rw handed-other over }
  elsewhere-takes st (lost x) r = record { state = drops st x; blocks = rw handed_junk over }

  aside-junk : (begun : Bool) (st : State) → L → Aside P begun (act st junk)
  aside-junk false st x = drops st x
  aside-junk true st x = (drops st x, rw act_junk refl)

  holds : (begun : Bool) (st : State) → Aside P begun st → P st
  holds false st r = r
  holds true st r = r.0

  -- packet 0 of another page shuts ours
  header-takes :
      ((st : State) → P st → P (act st foreign)) → (begun : Bool) (st : State) {x : Seen} → Beside L header x → Aside P begun st
      → Took L (Aside P true) [] st x
  header-takes shuts begun st named r =
      record { state = (shuts st (holds begun st r), rw act_foreign refl); blocks = rw handed_foreign over }
  header-takes shuts begun st (lost x) r = record { state = aside-junk true st x; blocks = rw handed_junk over }

  -- behind it other packets of our magazine do nothing
  row-takes : (st : State) {x : Seen} → Beside L row x → Aside P true st → Took L (Aside P true) [] st x
  row-takes st (numbered {y} {p} {l}) r =
      record { state = rw (act-shut y p l st r.1) r; blocks = rw (handed-shut y p l st r.1) over }
  row-takes st high r = record { state = rw act-other r; blocks = rw handed-other over }
  row-takes st (lost x) r = record { state = aside-junk true st x; blocks = rw handed_junk over }

module _ (R : ℕ → ℕ → Type 0) (L : Type 0) (hears : Hears R L) (s : Setting) (K : Kind → List ℕ → Type 0)
    (seen : (kind : Kind) (q : List ℕ) → K kind q → Beside L kind (see s q)) (k : ℕ) where
  -- what stands before the next of mine, within a page
  pub strip :
      (P : State → Type 0) → ((st : State) → L → P (act st junk)) → {w : ℕ} {p q : List ℕ} {ps mine qs : List (List ℕ)} (bs : List Block)
      → ((st : State) (qs : List (List ℕ)) → P st → Near R p q → Mingled R K k w false ps mine qs → Blocks L bs (heard_blocks s st (q ∷ qs)))
      → (st : State) → P st → Mingled R K k (suc w) false (p ∷ ps) (q ∷ mine) qs → Blocks L bs (heard_blocks s st qs)
  unfolding heard_blocks
  strip P drops bs next st r (sent {qs = qs} n a) = next st qs r n a
  strip P drops bs next st r (between {q = q} e a) =
      let t = elsewhere-takes L P drops st (seen elsewhere q e) r in
      came-append t.blocks (strip P drops bs next (act st (see s q)) t.state a)

  -- and between two pages
  pub strip-aside :
      (P : State → Type 0) → ((st : State) → L → P (act st junk)) → ((st : State) → P st → P (act st foreign))
      → {begun : Bool} {p q : List ℕ} {ps mine qs : List (List ℕ)} (bs : List Block)
      → ((st : State) (qs : List (List ℕ)) → P st → Near R p q → Mingled R K k k false ps mine qs → Blocks L bs (heard_blocks s st (q ∷ qs)))
      → (st : State) → Aside P begun st → Mingled R K k 0 begun (p ∷ ps) (q ∷ mine) qs → Blocks L bs (heard_blocks s st qs)
  unfolding heard_blocks
  strip-aside P drops shuts {begun} bs next st r (sent {qs = qs} n a) = next st qs (holds L P drops begun st r) n a
  strip-aside P drops shuts {begun} bs next st r (between {q = q} e a) =
      let t = elsewhere-takes L (Aside P begun) (aside-junk L P drops begun) st (seen elsewhere q e) r in
      came-append t.blocks (strip-aside P drops shuts bs next (act st (see s q)) t.state a)
  strip-aside P drops shuts {begun} bs next st r (begins {q = q} e a) =
      let t = header-takes L P drops shuts begun st (seen header q e) r in
      came-append t.blocks (strip-aside P drops shuts bs next (act st (see s q)) t.state a)
  strip-aside P drops shuts bs next st r (goes {q = q} e a) =
      let t = row-takes L P drops st (seen row q e) r in
      came-append t.blocks (strip-aside P drops shuts bs next (act st (see s q)) t.state a)

  abbrev pub Any : State → Type 0
  Any st = Unit

  -- after the last packet of mine
  pub quiet : {w : ℕ} {begun : Bool} (st : State) {mine qs : List (List ℕ)} → Aside Any begun st → Mingled R K k w begun [] mine qs → Blocks L [] (heard_blocks s st qs)
  unfolding heard_blocks
  quiet st r ended = over
  quiet {begun = begun} st r (between {q = q} e a) =
      let t = elsewhere-takes L (Aside Any begun) (aside-junk L Any (λ x y. tt) begun) st (seen elsewhere q e) r in
      came-append t.blocks (quiet (act st (see s q)) t.state a)
  quiet {begun = begun} st r (begins {q = q} e a) =
      let t = header-takes L Any (λ x y. tt) (λ x y. tt) begun st (seen header q e) r in
      came-append t.blocks (quiet (act st (see s q)) t.state a)
  quiet st r (goes {q = q} e a) =
      let t = row-takes L Any (λ x y. tt) st (seen row q e) r in
      came-append t.blocks (quiet (act st (see s q)) t.state a)

  module _ (page : s.page < 256) (stream : s.stream < 16) (most : k ≤ 25) where
    zero-takes :
        (m : Spot) (index : ℕ) → index < 16 → m.first ≤ m.page → (st : State) {q : List ℕ} → Ready L m index st
        → Near R (packet_zero s index k) q → Took L (Inside L k (leafed m) index 0) [] st (see s q)
    zero-takes m index h early st {q} r n = go (zero-heard s page stream index k h most R L hears n)
      where
        go : (see s q ≡ ours index k) ⊎ ((see s q ≡ junk) × L) → Took L (Inside L k (leafed m) index 0) [] st (see s q)
        go (inl e) = rw e (record { state = act_ours k m index st most early r; blocks = rw handed_ours over })
        go (inr w) = rw w.0 (record { state = inside_junk st w.1; blocks = rw handed_junk over })

    -- packet last + 1 with the next symbols of the stream, in this page
    packet-takes :
        (m : Spot) (index last : ℕ) (ss : List Symbol) (st : State) {q : List ℕ} → suc last ≤ k → Celled ss
        → Plain m.mode (told ss (map (placed m.page) (drop 3 q))) → Inside L k m index last st → Near R (data_packet s (suc last) ss) q
        → Took L (Inside L k (moved m (told ss (map (placed m.page) (drop 3 q)))) index (suc last))
        (sent_out m.mode m.first (told ss (map (placed m.page) (drop 3 q)))) st (see s q)
    packet-takes m index last ss st {q} h celled plain r n =
        let size = length-map (grab per_packet ss) byte_of ∙ length-grab per_packet ss in
        let p : pointer_of (grab per_packet ss) < 16 = omega (arith, before_le (grab per_packet ss), length-grab per_packet ss) in
        go r (packet-heard R L hears s (suc last) (pointer_of (grab per_packet ss)) _ (omega arith) (omega arith) p size n)
      where
        sy : List Symbol
        sy = grab per_packet ss

        ps : List Placed
        ps = map (placed m.page) (drop 3 q)

        zs : List Told
        zs = told ss ps

        near : Near R (map byte_of sy) (drop 3 q)
        near = packet_bytes_lem s (suc last) ss q n

        long : length ps ≡ 39
        long = length-map (drop 3 q) (placed m.page) ∙ sym (near-length near) ∙ length-map sy byte_of ∙ length-grab per_packet ss

        named : map symbol_of zs ≡ sy
        named = told-symbols ss ps ∙ rw long

        came : map came_of zs ≡ drop 3 q
        came = told_came ss ps ∙ bytes_placed m.page (drop 3 q)

        Goal : Type 0
        Goal = Took L (Inside L k (moved m zs) index (suc last)) (sent_out m.mode m.first zs) st (see s q)

        lost-it : L → see s q ≡ junk → Goal
        lost-it x e = rw e (record { state = inside_junk st x; blocks = rw handed_junk (lost-all x (sent_out m.mode m.first zs)) })

        dropped : (p : ℕ) (cs : List ℕ) → L → st.page ≡ Shut → st.mode ≡ off → st.joined ≡ false → see s q ≡ packet_y (suc last) p cs → Goal
        dropped p cs x z o j e =
            rw e
            (record {
              state = rw (act-shut (suc last) p cs st z) (shut x z o j);
              blocks = rw (handed-shut (suc last) p cs st z) (lost-all x (sent_out m.mode m.first zs));
            })

        taken :
            (p : ℕ) (cs : List ℕ) → st.page ≡ Open k last → st.index ≡ index
            → Heard L m zs (read_mode st.mode p cs) (read_joined st.joined st.mode p cs) (read_blocks st.joined st.mode p cs)
            → see s q ≡ packet_y (suc last) p cs → Goal
        taken p cs z i t e =
            rw e
            (record {
              state = rw (act-packet k last p cs st z h) (opened refl i t.stands);
              blocks = rw (handed-packet k last p cs st z h) t.blocks;
            })

        -- the packet as it is read
        Read : List Symbol → List ℕ → Type 0
        Read l cs =
            Heard L m zs (read_mode st.mode (pointer_of l) cs) (read_joined st.joined st.mode (pointer_of l) cs)
            (read_blocks st.joined st.mode (pointer_of l) cs)

        whole : Stands L m st.mode st.joined → Read sy (drop 3 q)
        whole b =
            subst₂ (λ (l : List Symbol) (cs : List ℕ). Read l cs)
            named came
            (heard-packet R L hears m st.mode st.joined zs plain
            (told_noisy 39 ss ps (subst (Near R (map byte_of sy)) (sym (bytes_placed m.page (drop 3 q))) near))
            (told_paged m.page ss (drop 3 q)) b
            (ap length named ∙ length-grab per_packet ss) (rw named (celled_aligned celled)))

        go :
            Inside L k m index last st
            → PacketHeard L s (suc last) (pointer_of sy) q → Goal
        go (opened z i b) (read e) = taken (pointer_of sy) (drop 3 q) z i (whole b) e
        go (opened z i b) (skipped {cs} x e) = taken undecodable cs z i (lost-packet L m st.mode st.joined zs cs x) e
        go (opened z i b) (unread x e) = lost-it x e
        go (shut x z o j) (read e) = dropped (pointer_of sy) (drop 3 q) x z o j e
        go (shut x z o j) (skipped {cs} y e) = dropped undecodable cs x z o j e
        go (shut x z o j) (unread y e) = lost-it y e

    -- our next packet, a packet 0, and what follows it
    zero-then :
        (m : Spot) (index : ℕ) (bs : List Block) {q : List ℕ} {ps mine : List (List ℕ)} → index < 16 → m.first ≤ m.page
        → ((st : State) (qs : List (List ℕ)) → Inside L k (leafed m) index 0 st → Mingled R K k k false ps mine qs → Blocks L bs (heard_blocks s st qs))
        → (st : State) {qs : List (List ℕ)} → Ready L m index st → Mingled R K k 0 false (packet_zero s index k ∷ ps) (q ∷ mine) qs
        → Blocks L bs (heard_blocks s st qs)
    unfolding heard_blocks
    zero-then m index bs {q} h early next st r a =
        strip-aside (Ready L m index) ready_junk ready_foreign bs
        (λ st qs r n a. let t = zero-takes m index h early st r n in came-append t.blocks (next (act st (see s q)) qs t.state a))
        st r a

    -- our next packet, one of the page's, and what follows it
    packet-then :
        (m : Spot) (index last w : ℕ) (ss : List Symbol) (bs : List Block) {q : List ℕ} {ys : List Told} {ps mine : List (List ℕ)}
        → suc last ≤ k → Celled ss → (g : Split m.mode m.first (told ss (map (placed m.page) (drop 3 q))) ys bs)
        → ((st : State) (qs : List (List ℕ)) → Inside L k (moved m (told ss (map (placed m.page) (drop 3 q)))) index (suc last) st → Mingled R K k w false ps mine qs
        → Blocks L g.rest (heard_blocks s st qs))
        → (st : State) {qs : List (List ℕ)} → Inside L k m index last st → Mingled R K k (suc w) false (data_packet s (suc last) ss ∷ ps) (q ∷ mine) qs
        → Blocks L bs (heard_blocks s st qs)
    unfolding heard_blocks
    packet-then m index last w ss bs {q} h celled g next st i a =
        rw g.gives
        (strip (Inside L k m index last) inside_junk (sent_out m.mode m.first (told ss (map (placed m.page) (drop 3 q))) ++ g.rest)
        (λ st qs i n a.
        let t = packet-takes m index last ss st h celled g.plain i n in
        came-append t.blocks (next (act st (see s q)) qs t.state a))
        st i a)

    pub after_one : (w : ℕ) (ss : List Symbol) → after_packets (suc w) ss ≡ after_packets w (drop per_packet ss)
    after_one w ss = let e : suc w * 39 ≡ 39 + w * 39 = omega arith in rw (e, drop-drop)

    -- the first of mine that is to come is near to the first that was sent
    pub first-near : {w : ℕ} {t : Bool} {p q : List ℕ} {ps mine qs : List (List ℕ)} → Mingled R K k w t (p ∷ ps) (q ∷ mine) qs → Near R p q
    first-near (sent n a) = n
    first-near (between e a) = first-near a
    first-near (begins e a) = first-near a
    first-near (goes e a) = first-near a

    pub none_left : {w : ℕ} {t : Bool} {p : List ℕ} {ps qs : List (List ℕ)} → Mingled R K k w t (p ∷ ps) [] qs → ⊥
    none_left (between e a) = none_left a
    none_left (begins e a) = none_left a
    none_left (goes e a) = none_left a

    pub none_more : {w : ℕ} {t : Bool} {q : List ℕ} {mine qs : List (List ℕ)} → Mingled R K k w t [] (q ∷ mine) qs → ⊥
    none_more (between e a) = none_more a
    none_more (begins e a) = none_more a
    none_more (goes e a) = none_more a

    -- the w packets after packet `last` of a page, and then the pages after it, of which `next` speaks
    pub packets-carried :
        (w last index p : ℕ) (m : Spot) (ss : List Symbol) (mine : List (List ℕ)) (bs : List Block) (st : State) (qs : List (List ℕ))
        → last + w ≡ k → Celled ss → m.first ≤ m.page → Sends m.mode m.first (told ss (carried_in k m.page w mine)) bs
        → ((m : Spot) (ss : List Symbol) (mine : List (List ℕ)) (bs : List Block) (st : State) (qs : List (List ℕ)) → Celled ss
        → m.first ≤ m.page → Sends m.mode m.first (told ss (carried_in k m.page 0 mine)) bs → Ready L m ((index + 1) % 16) st
        → Mingled R K k 0 false (pages s k p ((index + 1) % 16) ss) mine qs → Blocks L bs (heard_blocks s st qs))
        → Inside L k m index last st
        → Mingled R K k w false (data_packets s w (suc last) ss ++ pages s k p ((index + 1) % 16) (after_packets w ss)) mine qs
        → Blocks L bs (heard_blocks s st qs)
    unfolding data_packets carried_in
    packets-carried zero last index p m ss mine bs st qs e celled early r next inside a =
        let full : last ≡ k = omega arith in
        next m ss mine bs st qs celled early r
        (next-ready k st (subst (λ (x : ℕ). Inside L k m index x st) full inside)) a
    packets-carried (suc w) last index p m ss [] bs st qs e celled early r next inside a = absurd (none_left a)
    packets-carried (suc w) last index p m ss (q ∷ mine) bs st qs e celled early r next inside a =
        let near = packet_bytes_lem s (suc last) ss q (first-near a) in
        let here = map (placed m.page) (drop 3 q) in
        let others = carried_in k m.page w mine in
        let long : length here ≡ 39 =
        length-map (drop 3 q) (placed m.page) ∙ sym (near-length near) ∙ length-map (grab per_packet ss) byte_of ∙ length-grab per_packet ss in
        let cut : told ss (here ++ others) ≡ told ss here ++ told (drop per_packet ss) others = told-append ss here others ∙ rw long in
        let g = split m.mode m.first (told ss here) (told (drop per_packet ss) others) (rw cut at r) in
        let within : suc last ≤ k = omega arith in
        let on : suc last + w ≡ k = omega arith in
        packet-then m index last w ss bs within celled g
        (λ st qs i a.
        packets-carried w (suc last) index p (moved m (told ss here)) (drop per_packet ss) mine g.rest st qs on
        (after_celled 1 celled) (first_le m.page m.first (told_paged m.page ss (drop 3 q)) early) g.sends next i
        (subst
        (λ (l : List Symbol).
        Mingled R K k w false (data_packets s w (suc (suc last)) (drop per_packet ss) ++ pages s k p ((index + 1) % 16) l) mine qs)
        (after_one w ss) a))
        st inside a

    pub pages-carried :
        (p index : ℕ) → index < 16 → (m : Spot) (ss : List Symbol) (mine : List (List ℕ)) (bs : List Block) (st : State) (qs : List (List ℕ))
        → Celled ss → m.first ≤ m.page → Sends m.mode m.first (told ss (carried_in k m.page 0 mine)) bs → Ready L m index st
        → Mingled R K k 0 false (pages s k p index ss) mine qs
        → Blocks L bs (heard_blocks s st qs)
    unfolding pages sent_out carried_in told
    pages-carried zero index h m ss [] bs st qs celled early r ready a =
        subst (λ (l : List Block). Blocks L l (heard_blocks s st qs)) r.gives (quiet st tt a)
    pages-carried zero index h m ss (q ∷ mine) bs st qs celled early r ready a = absurd (none_more a)
    pages-carried (suc p) index h m ss [] bs st qs celled early r ready a = absurd (none_left a)
    pages-carried (suc p) index h m ss (q ∷ mine) bs st qs celled early r ready a =
        zero-then m index bs h early
        (λ st qs i a.
        packets-carried k 0 index p (leafed m) ss mine bs st qs (omega arith) celled (omega arith) r
        (pages-carried p ((index + 1) % 16) (omega arith)) i a)
        st ready a

-- blocks as our writer sends them, in pages of k packets from an index on
abbrev pub sent_blocks : Setting → ℕ → ℕ → List Block → List (List ℕ)
sent_blocks s index k bs = pages s k (pages_for k (length (stream_of bs))) index (stream_of bs)

-- every block as it landed, or, where loss is allowed, lost: with whatever between is seen as what it is
pub carried_among :
    (R : ℕ → ℕ → Type 0) (L : Type 0) → Hears R L → (s : Setting) → s.page < 256 → s.stream < 16 → (K : Kind → List ℕ → Type 0)
    → ((kind : Kind) (q : List ℕ) → K kind q → Beside L kind (see s q)) → (index k : ℕ) → index < 16 → 1 ≤ k → k ≤ 25
    → {bs : List Block} → Each Fits bs → {mine qs : List (List ℕ)} → Mingled R K k 0 false (sent_blocks s index k bs) mine qs
    → Came L ◌≡◌ (map landed (sendings bs (stream_in k mine))) (heard_blocks s fresh_state qs)
carried_among R L hears s page stream K seen index k h least most {bs} fits {mine} {qs} a =
    let n = stream-near k index (pages_for k (length (stream_of bs))) s (stream_of bs) (mingled-paired a) in
    let long : length (stream_in k mine) ≡ pages_for k (length (stream_of bs)) * (k * per_packet)
    = sym (length-map (stream_in k mine) byte_in) ∙ sym (near-length n) ∙ length-map (grab _ (stream_of bs)) byte_of ∙ length-grab _ (stream_of bs) in
    pages-carried R L hears s K seen k page stream most (pages_for k (length (stream_of bs))) index h
    (record { mode = scan; first = 0; page = 0 }) (stream_of bs) mine (map landed (sendings bs (stream_in k mine))) fresh_state qs (stream_celled bs)
    (omega arith) (stream-sends 0 fits (stream_in k mine) (omega (arith, covered bs k least)))
    (record { whole = refl; stands = record { mode = idle; joined = refl }; follows = inl refl }) a

-- with packets of other magazines between, and other pages of our magazine between whole pages of ours
pub carried_blocks_wider :
    (R : ℕ → ℕ → Type 0) (L : Type 0) → Hears R L → (s : Setting) → s.page < 256 → s.stream < 16 → (index k : ℕ) → index < 16 → 1 ≤ k → k ≤ 25
    → {bs : List Block} → Each Fits bs → {mine qs : List (List ℕ)} → Shared R s k (sent_blocks s index k bs) mine qs
    → Came L ◌≡◌ (map landed (sendings bs (stream_in k mine))) (heard_blocks s fresh_state qs)
carried_blocks_wider R L hears s page stream index k h least most fits a =
    carried_among R L hears s page stream (Rightly R s) (rightly-heard R L hears s) index k h least most fits a

-- with packets of other magazines alone
pub carried_blocks :
    (R : ℕ → ℕ → Type 0) (L : Type 0) → Hears R L → (s : Setting) → s.page < 256 → s.stream < 16 → (index k : ℕ) → index < 16 → 1 ≤ k → k ≤ 25
    → {bs : List Block} → Each Fits bs → {mine qs : List (List ℕ)} → Aired R s (sent_blocks s index k bs) mine qs
    → Came L ◌≡◌ (map landed (sendings bs (stream_in k mine))) (heard_blocks s fresh_state qs)
carried_blocks R L hears s page stream index k h least most fits a =
    carried_blocks_wider R L hears s page stream index k h least most fits (aired_shared a)
