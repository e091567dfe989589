-- Of any packets a reader hands out at most one block, the one that was running, and then what the same reader with nothing running would:
-- verdicts, and what begins at a pointed start, don't look at the running block. Where it lives through a packet 0 of ours its second byte is 1.
-- Assumes nothing.
use mathlib.Core.Path.{◌≡◌, refl, sym, subst}
use mathlib.Core.Bool.{Bool, true, false}
use mathlib.Core.List.{List, [], ◌∷◌, ◌++◌, map}
use Prim.Native.Nat.{ℕ, ◌*◌, ◌≤◌}
use native.Mathlib.Omega.{arith}
use lib.Dec.{eqb, leb}
use lib.ListN.{take, drop}
use borrow.Author.Tests.{le-leb, leb-true, ne_eqb}
use Rattle.laws.specs.Pick.{pick, both, either}
use Rattle.laws.proofs.Picks.{same as picks_same}
use Rattle.laws.proofs.Tests.{both_right, both_false, either_true}
use Rattle.blocks.specs.Block.{Block}
use Rattle.packet.specs.declared.Setting.{Setting}
use Rattle.pages.specs.declared.headers.Page.TheVariants.{Open}
use Rattle.pages.specs.Judging.{verdict_of, breaks}
use Rattle.pages.specs.Headers.{ours}
use Rattle.pages.specs.Seen.{see}
use Rattle.walk.specs.Mode.{Mode, off, scan, heading, body, running, full, block_with, ends as mode_ends, gives, goes_on, continues, finished, unfinished}
use Rattle.walk.specs.Reading.{drop_if, pointed, read_mode, spanning, ended, read_blocks, read_joined}
use Rattle.walk.proofs.Staying.{continues_off}
use Rattle.state.proofs.Clearing.{untrue}
use Rattle.state.specs.Acting.{State, pointer_of, bytes_of, act, handed}
use Rattle.claims.specs.Carrying.{heard_blocks}
use Rattle.claims.specs.CutLine.{Becomes, ends, goes, Behind, alone as behind_alone, after as behind_after}

-- the same reader with nothing running
abbrev pub stilled : State → State
stilled st = record { page = st.page; index = st.index; mode = off; joined = false }

-- ---- one packet

-- none, or one block that was running in m; where that spanned pages already it still does
data One (m : Mode) (j : Bool) : List Block → Type 0 where
  none : One m j []
  one : {b : Block} (t : Bool) → (j ≡ true → t ≡ true) → Becomes m b → One m j (spanning t b ∷ [])

whole-held : {m : Mode} {h part : ℕ} {held : List ℕ} → m ≡ body h part held → full h held ≡ true → finished m ≡ block_with h part held ∷ []
whole-held e f = rw (e, f)

module _ {m : Mode} {j t : Bool} (still : j ≡ true → t ≡ true) where
  ended-one : (u : Bool) (l : List ℕ) → One m j (ended t (continues u m l))
  ended-one u l = go (continues u m l) refl
    where
      found :
          (h part : ℕ) (held : List ℕ) → continues u m l ≡ body h part held → (v : Bool) → full h held ≡ v
          → One m j (map (spanning t) (pick v (block_with h part held ∷ []) []))
      found h part held e true f = one t still (ends u l (whole-held e f))
      found h part held e false f = none

      go : (k : Mode) → continues u m l ≡ k → One m j (ended t k)
      go off e = none
      go scan e = none
      go (heading g v part) e = none
      go (body h part held) e = found h part held e (full h held) refl

-- what a packet gives and leaves from m, beside what it gives and leaves with nothing running: one block more and the same, or nothing and the
-- block runs on
data Apart (m : Mode) (j : Bool) : List Block → Mode → Bool → List Block → Mode → Bool → Type 0 where
  same : {x bs : List Block} {k : Mode} {t : Bool} → One m j x → Apart m j (x ++ bs) k t bs k t
  runs : {k : Mode} (t : Bool) → (j ≡ true → t ≡ true) → ((b : Block) → Becomes k b → Becomes m b) → Apart m j [] k t [] off false

-- where no start is pointed at
on-apart :
    (m : Mode) (j t : Bool) → (j ≡ true → t ≡ true) → (l : List ℕ)
    → Apart m j (ended t (continues false m l)) (unfinished (continues false m l)) (both t (running (unfinished (continues false m l)))) [] off false
on-apart m j t still l = go (continues false m l) refl
  where
    on : (k : Mode) → running k ≡ true → unfinished (continues false m l) ≡ k → Apart m j [] k (both t (running k)) [] off false
    on k r e = rw (r, both_right t) (runs t still (λ b r. goes l (subst (λ (x : Mode). Becomes x b) (sym e) r)))

    found :
        (h part : ℕ) (held : List ℕ) → continues false m l ≡ body h part held → (u : Bool) → full h held ≡ u
        → Apart m j (map (spanning t) (pick u (block_with h part held ∷ []) [])) (pick u off (body h part held)) (both t (running (pick u off (body h part held)))) [] off false
    found h part held e true f = rw (both_false t) (same {bs = []} (one t still (ends false l (whole-held e f))))
    found h part held e false f = on (body h part held) refl (rw (e, f))

    go : (k : Mode) → continues false m l ≡ k → Apart m j (ended t k) (unfinished k) (both t (running (unfinished k))) [] off false
    go off e = rw (both_false t) (same {bs = []} none)
    go scan e = rw (both_false t) (same {bs = []} none)
    go (heading g v part) e = on (heading g v part) refl (rw e)
    go (body h part held) e = found h part held e (full h held) refl

read-apart :
    (m : Mode) (j t : Bool) → (j ≡ true → t ≡ true) → (p : ℕ) (l : List ℕ)
    → Apart m j (read_blocks t m p l) (read_mode m p l) (read_joined t m p l) (read_blocks false off p l) (read_mode off p l) (read_joined false off p l)
read-apart m j t still p l = rw (continues_off true (take (pointed p) l), continues_off false l) (go (leb p 12) (eqb p 13) (λ e. ne_eqb p 13 (λ f. omega (arith, leb-true p 12 e))))
  where
    k : Mode
    k = unfinished (mode_ends scan (drop (3 * p) l))

    bs : List Block
    bs = gives scan (drop (3 * p) l)

    go :
        (u v : Bool) → (u ≡ true → v ≡ false)
        → Apart m j
        (pick u (ended t (continues true m (take (3 * p) l)) ++ bs) (pick v (ended t (continues false m l)) []))
        (pick u k (pick v (unfinished (continues false m l)) off))
        (both t (both v (running (pick u k (pick v (unfinished (continues false m l)) off)))))
        (pick u bs (pick v [] []))
        (pick u k (pick v off off))
        false
    go true true e = let z = e refl in let y : ◌≡◌ {A = ℕ} 0 1 = cc in absurd (omega arith)
    go true false e = rw (both_false t) (same (ended-one still true (take (3 * p) l)))
    go false true e = on-apart m j t still l
    go false false e = rw (both_false t) (same {bs = []} none)

-- with a verdict that drops (d), opens (o) and reads (r) so
packet-apart :
    (d o r : Bool) (p : ℕ) (l : List ℕ) (m : Mode) (j : Bool)
    → Apart m j
    (pick r (read_blocks (pick d false (either (both o (running m)) j)) (drop_if d m) p l) [])
    (pick r (read_mode (drop_if d m) p l) (drop_if d m))
    (pick r (read_joined (pick d false (either (both o (running m)) j)) (drop_if d m) p l) (pick d false (either (both o (running m)) j)))
    (pick r (read_blocks (pick d false (either (both o false) false)) (drop_if d off) p l) [])
    (pick r (read_mode (drop_if d off) p l) (drop_if d off))
    (pick r (read_joined (pick d false (either (both o false) false)) (drop_if d off) p l) (pick d false (either (both o false) false)))
packet-apart true o r p l m j = same none
packet-apart false o true p l m j = rw (both_false o) (read-apart m j (either (both o (running m)) j) (λ e. rw (e, either_true (both o (running m)))) p l)
packet-apart false o false p l m j = rw (both_false o) (runs (either (both o (running m)) j) (λ e. rw (e, either_true (both o (running m)))) (λ b r. r))

-- ---- packets in a row

-- these blocks, and before them none, or one that was running in m; where that spanned pages already it still does
pub data Beyond (m : Mode) (j : Bool) (bs : List Block) : List Block → Type 0 where
  alone : Beyond m j bs bs
  after : {b : Block} (t : Bool) → (j ≡ true → t ≡ true) → Becomes m b → Beyond m j bs (spanning t b ∷ bs)

beyond-more :
    {m k : Mode} {j t : Bool} {bs out : List Block} → (j ≡ true → t ≡ true) → ((b : Block) → Becomes k b → Becomes m b) → Beyond k t bs out
    → Beyond m j bs out
beyond-more g f alone = alone
beyond-more g f (after u h r) = after u (λ e. h (g e)) (f _ r)

-- what it gives, and then the packets after it
apart-then :
    (s : Setting) (qs : List (List ℕ)) (at : Mode → Bool → State) {m k i : Mode} {j t u : Bool} {a b : List Block}
    → ((k : Mode) (t : Bool) → Beyond k t (heard_blocks s (at off false) qs) (heard_blocks s (at k t) qs)) → Apart m j a k t b i u
    → Beyond m j (b ++ heard_blocks s (at i u) qs) (a ++ heard_blocks s (at k t) qs)
apart-then s qs at next (same none) = alone
apart-then s qs at next (same (one t h r)) = after t h r
apart-then s qs at next (runs {k} t h f) = beyond-more h f (next k t)

pub heard-apart :
    (s : Setting) (st : State) (qs : List (List ℕ)) → Beyond st.mode st.joined (heard_blocks s (stilled st) qs) (heard_blocks s st qs)
unfolding heard_blocks act handed
heard-apart s st [] = alone
heard-apart s st (q ∷ qs) =
    let x = see s q in
    let v = verdict_of st.page st.index x in
    let at : Mode → Bool → State = λ m t. record { page = v.page; index = v.index; mode = m; joined = t } in
    apart-then s qs at (λ m t. heard-apart s (at m t) qs)
    (packet-apart v.drops v.opens v.reads (pointer_of x) (bytes_of x) st.mode st.joined)

-- ---- with nothing running none comes before

idle_on : (t : Bool) (m : Mode) (l : List ℕ) → running m ≡ false → running (continues t m l) ≡ false
unfolding continues goes_on
idle_on t m [] e = e
idle_on t off (b ∷ l) e = idle_on t off l refl
idle_on t scan (b ∷ l) e = idle_on t off l refl
idle_on t (heading g v part) (b ∷ l) e = untrue (sym e)
idle_on t (body h part held) (b ∷ l) e = untrue (sym e)

idle_ends : {b : Block} (m : Mode) → running m ≡ false → finished m ≡ b ∷ [] → ⊥
idle_ends off e f = let z : ◌≡◌ {A = ℕ} 0 1 = cc in omega arith
idle_ends scan e f = let z : ◌≡◌ {A = ℕ} 0 1 = cc in omega arith
idle_ends (heading g v part) e f = untrue (sym e)
idle_ends (body h part held) e f = untrue (sym e)

idle_rests : (m : Mode) → running m ≡ false → running (unfinished m) ≡ false
idle_rests off e = refl
idle_rests scan e = refl
idle_rests (heading g v part) e = untrue (sym e)
idle_rests (body h part held) e = untrue (sym e)

pub becomes_idle : {m : Mode} {b : Block} → running m ≡ false → Becomes m b → ⊥
becomes_idle {m} e (ends t l f) = idle_ends (continues t m l) (idle_on t m l e) f
becomes_idle {m} e (goes l r) = becomes_idle (idle_rests (continues false m l) (idle_on false m l e)) r

-- ---- a block that lives through a packet 0 that opens a page of ours has a second byte 1

lives : (m : Mode) (j d : Bool) {bs out : List Block} → Beyond (drop_if d m) (pick d false (either (running m) j)) bs out → Behind m bs out
lives m j d alone = behind_alone
lives m j true (after t h r) = absurd (becomes_idle refl r)
lives m j false {bs} (after {b} t h r) = go (running m) refl
  where
    go : (u : Bool) → running m ≡ u → Behind m bs (spanning t b ∷ bs)
    go true e = rw (h (rw e)) (behind_after r)
    go false e = absurd (becomes_idle e r)

pub zero_apart :
    (s : Setting) (st : State) (q : List ℕ) (qs : List (List ℕ)) (index n : ℕ) → n ≤ 25 → see s q ≡ ours index n
    → Behind st.mode (heard_blocks s (stilled st) (q ∷ qs)) (heard_blocks s st (q ∷ qs))
unfolding heard_blocks act handed
zero_apart s st q qs index n small e =
    let d = breaks st.page st.index index n in
    let opened : State =
    record {
      page = Open n 0;
      index = index;
      mode = drop_if d st.mode;
      joined = pick d false (either (running st.mode) st.joined);
    } in
    rw (e, le-leb n 25 small)
    (lives st.mode st.joined d (rw (picks_same d {a = off} refl refl, picks_same d {a = false} refl refl) (heard-apart s opened qs)))
