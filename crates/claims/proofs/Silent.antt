-- A reader with nothing running along packets of ours that begin at a packet 0: it is silent up to the first pointed start, and from there on it
-- stands where the walk without loss does. No byte may be lost, so that at most one flip a byte is allowed. Assumes nothing.
use mathlib.Core.Path.{◌≡◌, ◌∙◌, refl, sym, ap, subst}
use mathlib.Core.Bool.{true, false}
use mathlib.Core.Logic.{◌⊎◌, inl, inr}
use mathlib.Core.List.{List, [], ◌∷◌, ◌++◌, map}
use Prim.Native.Nat.{ℕ, zero, suc, ◌+◌, ◌-◌, ◌*◌, ◌%◌, ◌≤◌, ◌<◌}
use native.Mathlib.Omega.{arith}
use lib.ListN.{length, take, drop, length-map, length-append, length-drop}
use lib.Seq.{drop-append-le}
use borrow.Author.Tests.{le-leb}
use Rattle.laws.specs.Each.{Each}
use Rattle.laws.proofs.Picks.{same}
use Rattle.laws.proofs.Tests.{both_false}
use Rattle.laws.proofs.Maps.{map-drop}
use Rattle.blocks.specs.Block.{Block}
use Rattle.packet.specs.declared.Setting.{Setting}
use Rattle.packet.specs.Packet.{packet_zero}
use Rattle.symbols.specs.Stream.{Symbol, byte_of, per_packet, symbols, cells_of, stream_of, grab, before_start, pointer_of}
use Rattle.writer.specs.Cutting.{data_packet, data_packets, after_packets, pages}
use Rattle.writer.proofs.Aligned.{Celled, after_celled, celled_aligned}
use Rattle.writer.proofs.Filling.{length-grab, before_le}
use Rattle.pages.specs.declared.headers.Page.TheVariants.{Open}
use Rattle.pages.specs.Headers.{junk, foreign, ours, packet_y}
use Rattle.pages.specs.Seen.{see}
use Rattle.pages.specs.Judging.{incomplete, breaks}
use Rattle.walk.specs.Mode.{off, scan, ends, gives}
use Rattle.walk.specs.Reading.{read_mode, read_blocks}
use Rattle.walk.proofs.Staying.{continues_off}
use Rattle.state.specs.Acting.{State, act}
use Rattle.claims.specs.Noise.{Hears, Near, over, Fits}
use Rattle.claims.specs.Mingled.{Kind, Mingled}
use Rattle.claims.specs.Damage.{Placed, placed, carried_in, sendings, landed}
use Rattle.claims.specs.Carrying.{heard_blocks}
use Rattle.claims.proofs.Losing.{near-length, near-drop, came-append}
use Rattle.claims.proofs.Telling.{came_of, told, told-append, told_came, told_noisy, told_paged, bytes_placed}
use Rattle.claims.proofs.Landing.{packet_bytes_lem}
use Rattle.claims.proofs.Walking.{Plain, Blocks}
use Rattle.claims.proofs.Carrying.{idle}
use Rattle.claims.proofs.Marking.{sent_out, first_le, Spot, moved}
use Rattle.claims.proofs.Packet.{split-heard}
use Rattle.claims.proofs.Hearing.{Beside, zero-heard, packet-heard, PacketHeard, read, skipped, unread}
use Rattle.claims.proofs.Sending.{stream-sends, split}
use Rattle.claims.proofs.Carried.{Inside, opened, Took, act_foreign, act-packet, handed-packet, handed_ours, strip, strip-aside, quiet, after_one, first-near, none_left, none_more, packets-carried, pages-carried}
use Rattle.claims.proofs.Starting.{Ahead, ahead_grab, ahead_drop, silent, starts, next}

-- ---- with nothing running

pub record Idle (st : State) : Type 0 where
  pub mode : st.mode ≡ off
  pub joined : st.joined ≡ false

idle_junk : (st : State) → ⊥ → Idle (act st junk)
idle_junk st x = absurd x

idle_foreign : (st : State) → Idle st → Idle (act st foreign)
idle_foreign st r =
    rw act_foreign
    (record {
      mode = rw r.mode (same (incomplete st.page) refl refl);
      joined = rw r.joined (same (incomplete st.page) refl refl);
    })

-- in a page of k packets with this index, after packet `last`, with nothing running
record Still (k index last : ℕ) (st : State) : Type 0 where
  page : st.page ≡ Open k last
  at : st.index ≡ index
  idle : Idle st

-- our packet 0 opens the page, whatever stood open
still_ours : (k index : ℕ) (st : State) → k ≤ 25 → Idle st → Still k index 0 (act st (ours index k))
unfolding act
still_ours k index st small r =
    let d = breaks st.page st.index index k in
    record {
      page = rw (le-leb k 25 small);
      at = refl;
      idle =
          record {
            mode = rw r.mode (same d {a = off} refl refl);
            joined = rw (r.mode, r.joined, both_false) (same d {a = false} refl refl);
          };
    }

-- an empty stream is of no blocks
none-sent : (bs : List Block) → length (stream_of bs) ≡ 0 → (cs : List Placed) → sendings bs cs ≡ []
unfolding stream_of cells_of symbols sendings
none-sent [] e cs = refl
none-sent (b ∷ bs) e cs = absurd (omega arith)

-- at the first start, in page x
abbrev fresh : ℕ → Spot
fresh x = record { mode = scan; first = x; page = x }

module _ (R : ℕ → ℕ → Type 0) (hears : Hears R ⊥) (s : Setting) (k : ℕ) (page : s.page < 256) (stream : s.stream < 16) (most : k ≤ 25) where
  zero-opens :
      (index : ℕ) → index < 16 → (st : State) {q : List ℕ} → Idle st → Near R (packet_zero s index k) q
      → Took ⊥ (Still k index 0) [] st (see s q)
  zero-opens index h st {q} r n = go (zero-heard s page stream index k h most R ⊥ hears n)
    where
      go : (see s q ≡ ours index k) ⊎ ((see s q ≡ junk) × ⊥) → Took ⊥ (Still k index 0) [] st (see s q)
      go (inl e) = rw e (record { state = still_ours k index st most r; blocks = rw handed_ours over })
      go (inr w) = absurd w.1

  -- packet last + 1
  module _ (index last : ℕ) (ss : List Symbol) (st : State) (q : List ℕ) (h : suc last ≤ k) (celled : Celled ss) (r : Still k index last st)
      (n : Near R (data_packet s (suc last) ss) q) where
    abbrev cs : List ℕ
    cs = drop 3 q

    near : Near R (map byte_of (grab per_packet ss)) cs
    near = packet_bytes_lem s (suc last) ss q n

    is_read : see s q ≡ packet_y (suc last) (pointer_of (grab per_packet ss)) cs
    is_read =
        let size = length-map (grab per_packet ss) byte_of ∙ length-grab per_packet ss in
        let p : pointer_of (grab per_packet ss) < 16 = omega (arith, before_le (grab per_packet ss), length-grab per_packet ss) in
        go (packet-heard R ⊥ hears s (suc last) (pointer_of (grab per_packet ss)) _ (omega arith) (omega arith) p size n)
      where
        go : PacketHeard ⊥ s (suc last) (pointer_of (grab per_packet ss)) q → see s q ≡ packet_y (suc last) (pointer_of (grab per_packet ss)) cs
        go (read e) = e
        go (skipped x e) = absurd x
        go (unread x e) = absurd x

    taken :
        {P : State → Type 0} {bs : List Block} (p : ℕ) → pointer_of (grab per_packet ss) ≡ p
        → P (record { page = Open k (suc last); index = st.index; mode = read_mode off p cs; joined = false }) → Blocks ⊥ bs (read_blocks false off p cs)
        → Took ⊥ P bs st (see s q)
    taken p e x y =
        rw (is_read, e)
        (record {
          state = rw (act-packet k last p cs st r.page h, r.idle.mode, r.idle.joined) x;
          blocks = rw (handed-packet k last p cs st r.page h, r.idle.mode, r.idle.joined) y;
        })

    -- with no start in it
    passes : before_start (grab per_packet ss) ≡ per_packet → Took ⊥ (Still k index (suc last)) [] st (see s q)
    passes e =
        let o = continues_off false cs in
        taken 13 (omega arith)
        (record { page = refl; at = r.at; idle = record { mode = rw o; joined = refl } })
        (rw o over)

    -- with the first start in it; x is the number of the page
    begins :
        (x : ℕ) (bs : List Block) (f : ℕ) → Ahead ss f bs → f < per_packet → before_start (grab per_packet ss) ≡ f
        → let ys = told (stream_of bs) (map (placed x) (drop f cs)) in
        Plain scan ys → Took ⊥ (Inside ⊥ k (moved (fresh x) ys) index (suc last)) (sent_out scan x ys) st (see s q)
    unfolding before_start ends
    begins x bs f a small e plain =
        let ys = told (stream_of bs) (map (placed x) (drop f cs)) in
        let p = pointer_of (grab per_packet ss) in
        let least : p ≤ 12 = omega arith in
        let place : 3 * p ≡ f = celled_aligned celled ∙ e in
        let from = rw (ahead_grab per_packet a (omega arith)) at (near-drop f near) in
        let noisy = told_noisy {R = R} (per_packet - f) (stream_of bs) (map (placed x) (drop f cs)) (rw bytes_placed from) in
        let g = split-heard R ⊥ hears (fresh x) off false [] ys plain refl refl noisy (told_paged x (stream_of bs) (drop f cs))
        (record { mode = idle; joined = refl }) in
        let came : map came_of ys ≡ drop f cs = told_came (stream_of bs) (map (placed x) (drop f cs)) ∙ bytes_placed x (drop f cs) in
        let o = continues_off true (take (3 * p) cs) in
        taken p refl
        (opened refl r.at (rw (le-leb p 12 least, place) (rw came at g.stands)))
        (rw (le-leb p 12 least, o, place) (rw (continues_off true [], came) at g.blocks))

  module _ (K : Kind → List ℕ → Type 0) (seen : (kind : Kind) (q : List ℕ) → K kind q → Beside ⊥ kind (see s q)) (bs : List Block) (fits : Each Fits bs) where
    -- what comes of the blocks whose starts stand ahead, n bytes of the stream on
    abbrev out : ℕ → List Placed → List Block
    out n cs = map landed (sendings bs (drop n cs))

    -- what is said of so many pages from an index on, before which x have begun
    abbrev Comes : ℕ → ℕ → Type 0
    Comes p index =
        (x : ℕ) (ss : List Symbol) (n : ℕ) (mine : List (List ℕ)) (st : State) (qs : List (List ℕ)) → Celled ss → Ahead ss n bs
        → length ss ≤ length (carried_in k x 0 mine) → Idle st → Mingled R K k 0 false (pages s k p index ss) mine qs
        → Blocks ⊥ (out n (carried_in k x 0 mine)) (heard_blocks s st qs)

    -- our next packet, which is taken so, and what follows it
    packet-then :
        (Q : State → Type 0) (index last w : ℕ) (p q : List ℕ) {ps mine : List (List ℕ)} (x rest : List Block)
        → ((st : State) → Still k index last st → Near R p q → Took ⊥ Q x st (see s q))
        → ((st : State) (qs : List (List ℕ)) → Q st → Mingled R K k w false ps mine qs → Blocks ⊥ rest (heard_blocks s st qs))
        → (st : State) {qs : List (List ℕ)} → Still k index last st → Mingled R K k (suc w) false (p ∷ ps) (q ∷ mine) qs
        → Blocks ⊥ (x ++ rest) (heard_blocks s st qs)
    unfolding heard_blocks
    packet-then Q index last w p q x rest takes on st r a =
        strip R ⊥ hears s K seen k (Still k index last) (λ st x. absurd x) (x ++ rest)
        (λ st qs r n a. let t = takes st r n in came-append t.blocks (on (act st (see s q)) qs t.state a))
        st r a

    packets-silent :
        (w last index p x : ℕ) (ss : List Symbol) (n : ℕ) (mine : List (List ℕ)) (st : State) (qs : List (List ℕ)) → last + w ≡ k → index < 16
        → Celled ss → Ahead ss n bs → length ss ≤ length (carried_in k x w mine) → Comes p ((index + 1) % 16) → Still k index last st
        → Mingled R K k w false (data_packets s w (suc last) ss ++ pages s k p ((index + 1) % 16) (after_packets w ss)) mine qs
        → Blocks ⊥ (out n (carried_in k x w mine)) (heard_blocks s st qs)
    unfolding data_packets carried_in
    packets-silent zero last index p x ss n mine st qs e low celled ahead cover on still a =
        on x ss n mine st qs celled ahead cover still.idle a
    packets-silent (suc w) last index p x ss n [] st qs e low celled ahead cover on still a =
        absurd (none_left R ⊥ hears s K seen k page stream most a)
    packets-silent (suc w) last index p x ss n (q ∷ mine) st qs e low celled ahead cover on still a =
        let near = packet_bytes_lem s (suc last) ss q (first-near R ⊥ hears s K seen k page stream most a) in
        let bytes = drop 3 q in
        let here = map (placed x) bytes in
        let cs = carried_in k x w mine in
        let long : length here ≡ 39 =
        length-map bytes (placed x) ∙ sym (near-length near) ∙ length-map (grab per_packet ss) byte_of ∙ length-grab per_packet ss in
        let within : suc last ≤ k = omega arith in
        let up : suc last + w ≡ k = omega arith in
        let whole : length (here ++ cs) ≡ 39 + length cs = length-append here cs ∙ rw long in
        let after = after_one R ⊥ hears s K seen k page stream most w ss in
        elim (next ss n bs ahead) [
          | silent {m} none further same ↦
              rw (same here cs long)
              (packet-then (Still k index (suc last)) index last w (data_packet s (suc last) ss) q [] (out m cs)
              (λ st r f. passes index last ss st q within celled r f none)
              (λ st qs r a.
              packets-silent w (suc last) index p x (drop per_packet ss) m mine st qs up low (after_celled 1 celled) further
              (omega (arith, length-drop per_packet ss)) on r
              (subst
              (λ (l : List Symbol).
              Mingled R K k w false (data_packets s w (suc (suc last)) (drop per_packet ss) ++ pages s k p ((index + 1) % 16) l) mine qs)
              after a))
              st still a)
          | starts small first ↦
              let ys = told (stream_of bs) (map (placed x) (drop n bytes)) in
              let back : drop n (here ++ cs) ≡ map (placed x) (drop n bytes) ++ cs =
              drop-append-le n here cs (omega arith) ∙ ap (λ (l : List Placed). l ++ cs) (sym (map-drop (placed x) n bytes)) in
              let left : length (map (placed x) (drop n bytes)) ≡ 39 - n =
              ap length (map-drop (placed x) n bytes) ∙ length-drop n here ∙ rw long in
              let cut : told (stream_of bs) (drop n (here ++ cs)) ≡ ys ++ told (drop per_packet ss) cs =
              ap (told (stream_of bs)) back ∙ told-append (stream_of bs) (map (placed x) (drop n bytes)) cs
              ∙ rw (left, ← ahead_drop per_packet ahead (omega arith)) in
              let enough : length (stream_of bs) ≤ length (drop n (here ++ cs)) =
              omega (arith, length-drop n (here ++ cs), length-append ahead.front (stream_of bs), ap length ahead.whole, ahead.long) in
              let g = split scan x ys (told (drop per_packet ss) cs) (rw cut at (stream-sends x fits (drop n (here ++ cs)) enough)) in
              rw g.gives
              (packet-then (Inside ⊥ k (moved (fresh x) ys) index (suc last)) index last w (data_packet s (suc last) ss) q (sent_out scan x ys) g.rest
              (λ st r f. begins index last ss st q within celled r f x bs n ahead small first g.plain)
              (λ st qs r a.
              packets-carried R ⊥ hears s K seen k page stream most w (suc last) index p (moved (fresh x) ys) (drop per_packet ss) mine g.rest st qs up
              (after_celled 1 celled) (first_le x x (told_paged x (stream_of bs) (drop n bytes)) (omega arith)) g.sends
              (pages-carried R ⊥ hears s K seen k page stream most p ((index + 1) % 16) (omega arith)) r
              (subst
              (λ (l : List Symbol).
              Mingled R K k w false (data_packets s w (suc (suc last)) (drop per_packet ss) ++ pages s k p ((index + 1) % 16) l) mine qs)
              after a))
              st still a)
        ]

    pub pages-silent : (p index : ℕ) → index < 16 → Comes p index
    unfolding pages carried_in heard_blocks
    pages-silent zero index low x ss n [] st qs celled ahead cover rests a =
        let z : length (stream_of bs) ≡ 0 = omega (arith, length-append ahead.front (stream_of bs), ap length ahead.whole) in
        rw (none-sent bs z (drop n [])) (quiet R ⊥ hears s K seen k st tt a)
    pages-silent zero index low x ss n (q ∷ mine) st qs celled ahead cover rests a = absurd (none_more R ⊥ hears s K seen k page stream most a)
    pages-silent (suc p) index low x ss n [] st qs celled ahead cover rests a = absurd (none_left R ⊥ hears s K seen k page stream most a)
    pages-silent (suc p) index low x ss n (q ∷ mine) st qs celled ahead cover rests a =
        strip-aside R ⊥ hears s K seen k Idle idle_junk idle_foreign (out n (carried_in k (suc x) k mine))
        (λ st qs r f a.
        let t = zero-opens index low st r f in
        came-append t.blocks
        (packets-silent k 0 index p (suc x) ss n mine (act st (see s q)) qs (omega arith) low celled ahead cover
        (pages-silent p ((index + 1) % 16) (omega arith)) t.state a))
        st rests a
