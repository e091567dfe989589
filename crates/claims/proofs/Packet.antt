-- One packet of our page: along its 39 bytes the reader that hears them does what the reader of those that stand for them does, or has
-- dropped. The pointer names the first start, so the bytes before it are the running block's and filler. Assumes nothing.
use mathlib.Core.Path.{◌≡◌, ◌∙◌, refl, sym, ap, subst}
use mathlib.Core.Bool.{Bool, true, false, not}
use mathlib.Core.List.{List, [], ◌∷◌, ◌++◌, map, map-append}
use Prim.Native.Nat.{ℕ, suc, ◌*◌, ◌≤◌, ◌<◌}
use native.Mathlib.Decide.{dec_lt}
use native.Mathlib.Omega.{arith}
use lib.ListN.{length, take, drop, take-append-drop}
use lib.Dec.{eqb}
use borrow.Author.Tests.{le-leb, eq-eqb, ne_eqb}
use Rattle.laws.specs.Each.{Each}
use Rattle.laws.proofs.Eaches.{each_left, each_right}
use Rattle.laws.specs.Pick.{both}
use Rattle.laws.proofs.Tests.{both_right, both_false}
use Rattle.laws.proofs.Maps.{map-take, map-drop}
use Rattle.blocks.specs.Block.{Block}
use Rattle.symbols.specs.Stream.{Symbol, start, fill, bits, raw, before_start, pointer_of}
use Rattle.writer.proofs.Filling.{before_le}
use Rattle.walk.specs.Mode.{Mode, off, scan, heading, body, running, step, ends, gives, continues, finished, unfinished}
use Rattle.walk.specs.Reading.{spanning, ended, read_mode, read_blocks, read_joined}
use Rattle.walk.proofs.Staying.{continues_off}
use Rattle.state.proofs.Clearing.{untrue}
use Rattle.claims.specs.Noise.{Hears}
use Rattle.claims.proofs.Losing.{lost-all, came-append, came_map}
use Rattle.claims.proofs.Telling.{Told, heard, symbol_of, came_of, stood, Noisy}
use Rattle.claims.proofs.Walking.{Fit, opens, Plain, sent_ends, Runs, Sim, same, gone, Blocks, flow-follows}
use Rattle.claims.proofs.Carrying.{Carried, Between, continues-follows, out_of, runs_on}
use Rattle.claims.proofs.Marking.{sent_first, sent_out, first-append, out_append, InPage, before-out, from-here, Spot, moved}
use Rattle.claims.proofs.Carrying

-- ---- walks go on from one list to the next

pub ends-append : (m : Mode) (xs ys : List ℕ) → ends m (xs ++ ys) ≡ ends (ends m xs) ys
unfolding ends
ends-append m [] ys = refl
ends-append m (x ∷ xs) ys = ends-append (step m x) xs ys

pub sent_ends-append : (m : Mode) (xs ys : List Told) → sent_ends m (xs ++ ys) ≡ sent_ends (sent_ends m xs) ys
sent_ends-append m xs ys = ap (ends m) (map-append stood xs ys) ∙ ends-append m (map stood xs) (map stood ys)

pub plain-left : (m : Mode) (xs ys : List Told) → Plain m (xs ++ ys) → Plain m xs
plain-left m [] ys t = tt
plain-left m (x ∷ xs) ys t = (t.0, plain-left (step m (stood x)) xs ys t.1)

pub plain_right : (m : Mode) (xs ys : List Told) → Plain m (xs ++ ys) → Plain (sent_ends m xs) ys
unfolding ends
plain_right m [] ys t = t
plain_right m (x ∷ xs) ys t = plain_right (step m (stood x)) xs ys t.1

pub plain-append : (m : Mode) (xs ys : List Told) → Plain m xs → Plain (sent_ends m xs) ys → Plain m (xs ++ ys)
unfolding ends
plain-append m [] ys t u = u
plain-append m (x ∷ xs) ys t u = (t.0, plain-append (step m (stood x)) xs ys t.1 u)

-- ---- before the first start

before-take : (ss : List Symbol) → before_start (take (before_start ss) ss) ≡ length (take (before_start ss) ss)
unfolding before_start
before-take [] = refl
before-take (start ∷ ss) = refl
before-take (fill ∷ ss) = ap suc (before-take ss)
before-take (bits n ∷ ss) = ap suc (before-take ss)
before-take (raw b ∷ ss) = ap suc (before-take ss)

-- at the first start nothing runs
at-start :
    (m : Mode) (zs : List Told) → Plain m zs → before_start (map symbol_of zs) < length (map symbol_of zs)
    → sent_ends m (take (before_start (map symbol_of zs)) zs) ≡ scan
unfolding before_start ends
at-start m [] t h = absurd (omega arith)
at-start m (heard start c ∷ zs) t h = opened t.0
  where
    opened : {m : Mode} → Fit m start → m ≡ scan
    opened opens = refl
at-start m (heard fill c ∷ zs) t h = at-start (step m (stood (heard fill c))) zs t.1 (omega arith)
at-start m (heard (bits n) c ∷ zs) t h = at-start (step m (stood (heard (bits n) c))) zs t.1 (omega arith)
at-start m (heard (raw b) c ∷ zs) t h = at-start (step m (stood (heard (raw b) c))) zs t.1 (omega arith)

-- what the flow leaves at the packet's end goes on running
sim_between : {L : Type 0} {m k : Mode} → Sim L m k → Between L m (unfinished k)
sim_between (same {m} r) = go m r
  where
    go : {L : Type 0} (m : Mode) → Runs m → Between L m (unfinished m)
    go off r = absurd r
    go scan r = Carrying.idle
    go (heading g v part) r = Carrying.heads
    go (body h part l) r = rw r (Carrying.bodies r)
sim_between (gone x) = Carrying.gone x

-- ---- the second byte

-- the block that ran before goes out as one that spans pages or not
ended_follows :
    {L : Type 0} {m k : Mode} {c : List Block} (t b : Bool) {j : Bool} {a : List Block} (cs : List ℕ) → Carried L m c k → j ≡ both (running k) b
    → Blocks L a (finished (continues t k cs)) → Blocks L (map (spanning b) a) (ended j (continues t k cs))
ended_follows t b cs Carrying.idle e r = rw (continues_off t cs) (came_map (spanning b) (rw (continues_off t cs) at r))
ended_follows t b cs Carrying.heads e r = rw e (came_map (spanning b) r)
ended_follows t b cs (Carrying.bodies f) e r = rw e (came_map (spanning b) r)
ended_follows t b cs (Carrying.waits f) e r = rw e (came_map (spanning b) r)
ended_follows t b cs (Carrying.gone x) e r = rw (continues_off t cs) (came_map (spanning b) (rw (continues_off t cs) at r))

both-turned : (a b : Bool) → both a b ≡ both b a
both-turned true b = sym (both_right b)
both-turned false b = sym (both_false b)

-- where no start is pointed at it may run on
on-joined :
    {L : Type 0} {m k : Mode} {c : List Block} (b : Bool) {j : Bool} (cs : List ℕ) → Carried L m c k → j ≡ both (running k) b
    → both j (running (unfinished (continues false k cs))) ≡ both (running (unfinished (continues false k cs))) b
on-joined b {j} cs Carrying.idle e = rw (continues_off false cs) (both_false j)
on-joined b cs Carrying.heads e = rw e (both-turned b _)
on-joined b cs (Carrying.bodies f) e = rw e (both-turned b _)
on-joined b cs (Carrying.waits f) e = rw e (both-turned b _)
on-joined b {j} cs (Carrying.gone x) e = rw (continues_off false cs) (both_false j)

-- one that began in the page spans none
pub here_joined :
    {L : Type 0} {m k : Mode} {c : List Block} (p x : ℕ) → Carried L m c k → c ≡ [] → (running m ≡ true → p ≡ x)
    → false ≡ both (running k) (not (eqb p x))
here_joined p x Carrying.idle e q = refl
here_joined p x Carrying.heads e q = rw (eq-eqb p x (q refl))
here_joined p x (Carrying.bodies f) e q = rw (eq-eqb p x (q refl))
here_joined p x (Carrying.waits f) e q = absurd (let z : ◌≡◌ {A = ℕ} 0 1 = cc in omega arith)
here_joined p x (Carrying.gone y) e q = refl

-- ---- the packet

-- the reader beside the walk along what stands for its bytes: its mode, and whether the block that it runs began in another page than this
pub record Stands (L : Type 0) (m : Spot) (k : Mode) (j : Bool) : Type 0 where
  pub mode : Between L m.mode k
  pub joined : j ≡ both (running k) (not (eqb m.first m.page))

-- after the packet, and what came of the blocks
pub record Heard (L : Type 0) (m : Spot) (zs : List Told) (k : Mode) (j : Bool) (out : List Block) : Type 0 where
  pub stands : Stands L (moved m zs) k j
  pub blocks : Blocks L (sent_out m.mode m.first zs) out

-- a pointer that can't be decoded
pub lost-packet :
    (L : Type 0) (m : Spot) (k : Mode) (j : Bool) (zs : List Told) (cs : List ℕ) → L
    → Heard L m zs (read_mode k 16 cs) (read_joined j k 16 cs) (read_blocks j k 16 cs)
lost-packet L m k j zs cs x =
    record {
      stands = record { mode = Carrying.gone x; joined = both_false j };
      blocks = lost-all x (sent_out m.mode m.first zs);
    }

-- the running block along xs, where no start is, and the flow from ys on
pub split-heard :
    (R : ℕ → ℕ → Type 0) (L : Type 0) → Hears R L → (m : Spot) (k : Mode) (j : Bool) (xs ys : List Told) → Plain m.mode (xs ++ ys)
    → before_start (map symbol_of xs) ≡ length (map symbol_of xs) → sent_ends m.mode xs ≡ scan → Each (Noisy R) (xs ++ ys)
    → Each (InPage m.page) (xs ++ ys) → Stands L m k j
    → Heard L m (xs ++ ys) (unfinished (ends scan (map came_of ys))) false
    (ended j (continues true k (map came_of xs)) ++ gives scan (map came_of ys))
split-heard R L hears m k j xs ys plain none_before e noisy paged held =
    let on : Plain scan ys = subst (λ (x : Mode). Plain x ys) e (plain_right m.mode xs ys plain) in
    let c = continues-follows R L hears true xs (plain-left m.mode xs ys plain) none_before (each_left xs ys noisy) held.mode in
    let f = flow-follows R L hears ys on (each_right xs ys noisy) (same tt) in
    let u = before-out m.page m.mode m.first (each_left xs ys paged) none_before in
    let v = from-here m.page scan (sent_first m.first xs) (each_right xs ys paged) on (λ w. untrue w) in
    let n : Between L (sent_ends scan ys) (unfinished (ends scan (map came_of ys))) = sim_between f.mode in
    record {
      stands =
          record {
            mode = rw (sent_ends-append m.mode xs ys, e) n;
            joined = rw (first-append m.first xs ys) (here_joined (sent_first (sent_first m.first xs) ys) m.page n refl v.first);
          };
      blocks =
          rw (out_append m.mode m.first xs ys, e, u.out, v.out)
          (came-append (ended_follows true (not (eqb m.first m.page)) (map came_of xs) held.mode held.joined (out_of c)) f.blocks);
    }

module _ (R : ℕ → ℕ → Type 0) (L : Type 0) (hears : Hears R L) (m : Spot) (k : Mode) (j : Bool) (zs : List Told)
    (plain : Plain m.mode zs) (noisy : Each (Noisy R) zs) (paged : Each (InPage m.page) zs) (held : Stands L m k j) where
  abbrev ss : List Symbol
  ss = map symbol_of zs

  abbrev cs : List ℕ
  cs = map came_of zs

  -- with a start in the packet
  to_start :
      before_start ss < length ss
      → Heard L m zs
      (unfinished (ends scan (drop (before_start ss) cs)))
      false
      (ended j (continues true k (take (before_start ss) cs)) ++ gives scan (drop (before_start ss) cs))
  to_start h =
      let n = before_start ss in
      let t : map symbol_of (take n zs) ≡ take n ss = map-take symbol_of n zs in
      let w = split-heard R L hears m k j (take n zs) (drop n zs)
      (rw take-append-drop plain) (rw t (before-take ss)) (at-start m.mode zs plain h)
      (rw take-append-drop noisy) (rw take-append-drop paged) held in
      rw (← map-take came_of n zs, ← map-drop came_of n zs)
      (subst
      (λ (l : List Told).
      Heard L m l (unfinished (ends scan (map came_of (drop n zs)))) false
      (ended j (continues true k (map came_of (take n zs))) ++ gives scan (map came_of (drop n zs))))
      (take-append-drop n zs) w)

  -- with none
  no_start :
      before_start ss ≡ length ss
      → Heard L m zs (unfinished (continues false k cs)) (both j (running (unfinished (continues false k cs)))) (ended j (continues false k cs))
  no_start e =
      let c = continues-follows R L hears false zs plain e noisy held.mode in
      let u = before-out m.page m.mode m.first paged e in
      record {
        stands =
            record {
              mode = runs_on c;
              joined = rw u.first (on-joined (not (eqb m.first m.page)) cs held.mode held.joined);
            };
        blocks = rw u.out (ended_follows false (not (eqb m.first m.page)) cs held.mode held.joined (out_of c));
      }

  pub heard-packet :
      length ss ≡ 39 → 3 * pointer_of ss ≡ before_start ss
      → Heard L m zs (read_mode k (pointer_of ss) cs) (read_joined j k (pointer_of ss) cs) (read_blocks j k (pointer_of ss) cs)
  heard-packet long aligned =
      elim (dec_lt (before_start ss) (length ss)) [
        | yes h ↦
            let p : pointer_of ss ≤ 12 = omega arith in
            let q : pointer_of ss ≡ 13 → ⊥ = λ e. omega arith in
            rw (le-leb (pointer_of ss) 12 p, ne_eqb (pointer_of ss) 13 q, both_false, aligned) (to_start h)
        | no h ↦
            let e : before_start ss ≡ length ss = omega (arith, before_le ss) in
            let p : pointer_of ss ≡ 13 = omega arith in
            rw p (no_start e)
      ]
