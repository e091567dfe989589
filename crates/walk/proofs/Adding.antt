-- What a part of a call adds to what has come so far, and that one part after the other adds both. Assumes nothing.
use mathlib.Core.Path.{◌≡◌, ◌∙◌, refl, sym, ap}
use mathlib.Core.Bool.{Bool, true, false, not}
use mathlib.Core.List.{List, [], ◌∷◌, ◌++◌, append_assoc, append-nil}
use Prim.Native.Nat.{ℕ, suc, ◌+◌, ◌-◌, ◌*◌, ◌^◌, ◌≤◌, ◌<◌}
use native.Mathlib.Omega.{arith}
use native.Mathlib.Decide.{dec_lt}
use lib.ListN.{length, take, drop, length-append}
use lib.Seq.{sets, length-take-le, drop-drop}
use borrow.Author.Tests.{le-leb, lt-leb, eq-eqb, ne_eqb}
use Rattle.laws.specs.Pick.{both, either}
use Rattle.laws.proofs.Tests.{both_right, either_false, either_assoc, either_true}
use Rattle.laws.proofs.Lists.{sets-append, part_of, part-rest}
use Rattle.blocks.specs.Block.{Block, size_of, record_of, records_of}
use Rattle.packet.specs.Packet.{packet_length}
use Rattle.walk.specs.declared.Run.{Run}
use Rattle.walk.specs.declared.Run.TheVariants.{Idle, Head, Body}
use Rattle.walk.specs.declared.Got.{Got}
use Rattle.walk.specs.declared.Taken.{Taken}
use Rattle.walk.specs.Mode.{Mode, off, scan, heading, body, full, block_with, is_full, finished, unfinished, running, continues, Bits, Good}
use Rattle.walk.specs.Store.{zeroed, store_length, mode_of}
use Rattle.walk.specs.Places.{StartAhead, nothing, broken, cut, whole, fillers, found, stands}
use Rattle.walk.specs.Internal.{Holds, Kept, Went, Finished, runs, awaits, TookIn, ContinuedTo, ContinuedOn, Flowed, ReadPacket, Lost}
use Rattle.walk.specs.Reading.{drop_if, spanning, ended, pointed_by}
use Rattle.walk.proofs.Staying.{waits, breaks_off}
use Rattle.walk.proofs.Walking.{left_by, given_by, spoilt_by, found_left, found-given, found_spoilt, headed-long, headed-short}
use Rattle.walk.proofs.Keeping.{kept-body, body-length, found_part, holds_idle, holds_mode, zeroed-more}

pub records_of-append : (xs ys : List Block) → records_of (xs ++ ys) ≡ records_of xs ++ records_of ys
unfolding records_of
records_of-append [] ys = refl
records_of-append (x ∷ xs) ys = rw (records_of-append xs ys) (sym (append_assoc (record_of x) (records_of xs) (records_of ys)))

pub record_one : (b : Block) → records_of (b ∷ []) ≡ record_of b
unfolding records_of
record_one b = append-nil (record_of b)

-- nothing was added
pub went_nowhere : {m : Mode} (a : Got) {store : List ℕ} (out : List ℕ) → Holds m a.run store → Went m [] false a a store out out
unfolding records_of
went_nowhere a out h =
    record { holds = h; blocks = omega arith; written = omega arith; dropped = sym (either_false a.dropped); out = refl }

-- one part after the other
pub went_on :
    {m n : Mode} {xs ys : List Block} {d e : Bool} {a b c : Got} {s t o p q : List ℕ} → Went m xs d a b s o p → Went n ys e b c t p q
    → Went n (xs ++ ys) (either d e) a c t o q
went_on {m} {n} {xs} {ys} {d} {e} {a} {b} {c} {s} {t} {o} {p} {q} x y =
    record {
      holds = y.holds;
      blocks = y.blocks ∙ rw (x.blocks, length-append) (omega arith);
      written = y.written ∙ rw (x.written, records_of-append, length-append) (omega arith);
      dropped = y.dropped ∙ rw x.dropped (either_assoc a.dropped d e);
      out = y.out ∙ rw (x.out, x.written, records_of-append) (sym (sets-append o a.written (records_of xs) (records_of ys)));
    }

-- ---- a block that is held whole goes out, and another stays

not_full : (m : Mode) → Good m → is_full m ≡ false → (unfinished m ≡ m) × (finished m ≡ [])
not_full off g e = (refl, refl)
not_full scan g e = absurd g
not_full (heading n v part) g e = (refl, refl)
not_full (body h part held) g e = (rw e, rw e)

pub stays-running :
    (a : Got) (j : Bool) {store : List ℕ} (out : List ℕ) → Kept a.run store → is_full (mode_of a.run store) ≡ false
    → Finished j (mode_of a.run store) a a store out out
stays-running a j {store} out k e =
    let n = not_full (mode_of a.run store) k.good e in
    rw (n.0, n.1) (went_nowhere a out k)

module _ {r : Run} {store : List ℕ} {h part n : ℕ} (k : Kept r store) (e : r ≡ Body h part n) where
  pub body-short : n < size_of h → is_full (mode_of r store) ≡ false
  body-short f = rw (e, body-length (kept-body k e)) (lt-leb _ _ f)

pub goes_out_lem :
    (a : Got) (j : Bool) {store after : List ℕ} (old : List ℕ) {new : List ℕ} {h part n : ℕ} → Kept a.run store → a.run ≡ Body h part n
    → size_of h ≤ n
    → after ≡ zeroed [] → new ≡ sets old a.written (record_of (spanning j (block_with h part (take n store))))
    → Finished j (mode_of a.run store) a
    (record { run = Idle; blocks = a.blocks + 1; written = a.written + 4 + n; dropped = a.dropped }) after old new
goes_out_lem a j {store} {after} old {new} {h} {part} {n} k e f c o =
    let b : Block = spanning j (block_with h part (take n store)) in
    let l : length (take n store) ≡ n = body-length (kept-body k e) in
    let w : full h (take n store) ≡ true = rw l (le-leb _ _ f) in
    let x : length (records_of (b ∷ [])) ≡ suc (suc (suc (suc n))) = ap length (record_one b) ∙ rw l in
    rw (e, w)
    (record {
      holds = holds_idle c;
      blocks = omega arith;
      written = omega (arith, x);
      dropped = sym (either_false a.dropped);
      out = o ∙ ap (λ (r : List ℕ). sets old a.written r) (sym (record_one b));
    })

-- ---- what was known of a block when a part began

-- a drop that was noted beforehand
pub went_noting :
    {m : Mode} {bs : List Block} {a : Got} (b : Got) {r : Got} {d : Bool} {s o p : List ℕ} → Went m bs false b r s o p
    → b.blocks ≡ a.blocks → b.written ≡ a.written → b.dropped ≡ either a.dropped d → Went m bs d a r s o p
went_noting b w x y z =
    record {
      holds = w.holds;
      blocks = w.blocks ∙ rw x;
      written = w.written ∙ rw y;
      dropped = w.dropped ∙ either_false b.dropped ∙ z;
      out = w.out ∙ rw y;
    }

pub runs_mode : (r : Run) (store : List ℕ) → running (mode_of r store) ≡ runs r
runs_mode Idle store = refl
runs_mode (Head g v part) store = refl
runs_mode (Body h part n) store = refl

-- ---- at the pointed byte

-- whether the block stands there
pub stands-full : (m : Mode) {r : Run} {store : List ℕ} (l : List ℕ) → Holds m r store → is_full (awaits m l) ≡ stands r l
stands-full off l h = rw h.run
stands-full scan l h = absurd h.good
stands-full (heading g v part) l h = rw h.run
stands-full (body x part held) l h =
    rw h.run
    (elim (dec_lt (length held) (size_of x)) [
      | yes f ↦ rw (lt-leb _ _ f) (lt-leb _ _ f)
      | no f ↦
          let g : size_of x ≤ length held = omega arith in
          elim (dec_lt (fillers l) (length l)) [
            | yes k ↦ rw (le-leb _ _ g, breaks_off x part held l g k, lt-leb _ _ k)
            | no k ↦
                let j : length l ≤ fillers l = omega arith in
                rw (le-leb _ _ g, waits x part held l g j, le-leb _ _ j) (le-leb _ _ g)
          ]
    ])

-- what is left of it then
pub lost_or_out :
    (m : Mode) (l : List ℕ) → Good m
    → (unfinished (drop_if (not (is_full (awaits m l))) m) ≡ off)
    × (finished (drop_if (not (is_full (awaits m l))) m) ≡ finished (awaits m l))
lost_or_out off l g = (refl, refl)
lost_or_out scan l g = absurd g
lost_or_out (heading n v part) l g = (refl, refl)
lost_or_out (body x part held) l g =
    elim (dec_lt (length held) (size_of x)) [
      | yes f ↦ simp (lt-leb _ _ f) (refl, refl)
      | no f ↦
          let g : size_of x ≤ length held = omega arith in
          elim (dec_lt (fillers l) (length l)) [
            | yes k ↦ rw (le-leb _ _ g, breaks_off x part held l g k) (refl, refl)
            | no k ↦
                let j : length l ≤ fillers l = omega arith in
                simp (le-leb _ _ g, waits x part held l g j) (refl, refl)
          ]
    ]

-- ---- a running block over the bytes of a packet

abbrev pub noted : Got → Run → Bool → Got
noted a r d = record { run = r; blocks = a.blocks; written = a.written; dropped = d }

module _ (j : Bool) (m : Mode) (l : List ℕ) (a : Got) {t : Taken} {store : List ℕ} (took : TookIn m l l t store) where
  in-mode : mode_of t.run store ≡ continues false m l
  in-mode = holds_mode (continues false m l) took.holds

  pub continued-on :
      {r : Got} {d : Bool} {after old new : List ℕ} → d ≡ either a.dropped (both (running m) (not (runs t.run)))
      → Finished j (mode_of t.run store) (noted a t.run d) r after old new → ContinuedOn j m l a r after old new
  continued-on {r} {d} e f =
      let x : runs t.run ≡ running (continues false m l) = sym (runs_mode t.run store) ∙ ap running in-mode in
      went_noting (noted a t.run d) (rw in-mode at f) refl refl (rw x at e)

  pub continued-to :
      {kept : Run} {r : Got} {d lost : Bool} {between after old new : List ℕ} → lost ≡ not (stands t.run (drop t.next l))
      → Holds (drop_if lost (mode_of t.run store)) kept between → d ≡ either a.dropped (both (running m) lost)
      → Finished j (mode_of kept between) (noted a kept d) r after old new → ContinuedTo j m l a r after old new
  continued-to {kept} {r} {d} {lost} {between} {after} {old} {new} x h e f =
      let rest = drop t.next l in
      let y : lost ≡ not (is_full (awaits (continues false m l) rest))
      = x ∙ ap not (sym (stands-full (continues false m l) rest took.holds)) in
      let z : mode_of kept between ≡ drop_if (not (is_full (awaits (continues false m l) rest))) (continues false m l)
      = holds_mode (drop_if lost (mode_of t.run store)) h ∙ rw (in-mode, y) in
      let o = lost_or_out (continues false m l) rest took.holds.good in
      let g : Went off (ended j (awaits (continues false m l) rest)) false (noted a kept d) r after old new = rw (z, o.0, o.1) at f in
      rw took.rest (went_noting (noted a kept d) g refl refl (rw y at e))

-- ---- from the pointed byte on

-- no block more
pub went_none :
    {m : Mode} {d : Bool} (a : Got) (r : Run) {x : Bool} {store : List ℕ} (out : List ℕ) → Holds m r store
    → x ≡ either a.dropped d → Went m [] d a (noted a r x) store out out
unfolding records_of
went_none a r out h e = record { holds = h; blocks = omega arith; written = omega arith; dropped = e; out = refl }

-- one block more
went_one :
    (a : Got) (h part : ℕ) (raw : List ℕ) {old new : List ℕ} → new ≡ sets old a.written (record_of (block_with h part raw))
    → Went off (block_with h part raw ∷ []) false a
    (record { run = Idle; blocks = a.blocks + 1; written = a.written + 4 + length raw; dropped = a.dropped }) (zeroed []) old new
went_one a h part raw {old} {new} e =
    let x : length (records_of (block_with h part raw ∷ [])) ≡ suc (suc (suc (suc (length raw)))) = ap length (record_one (block_with h part raw)) in
    record {
      holds = holds_idle refl;
      blocks = omega arith;
      written = omega (arith, x);
      dropped = sym (either_false a.dropped);
      out = e ∙ ap (λ (r : List ℕ). sets old a.written r) (sym (record_one (block_with h part raw)));
    }

-- by what stands ahead
module _ (l : List ℕ) (a : Got) {f : StartAhead} (x : found l ≡ f) where
  by-found :
      {r : Got} {store old new : List ℕ} → Went (left_by f) (given_by f) (spoilt_by f) a r store old new → Flowed l a r store old new
  by-found w = rw (found_left l, found-given l, found_spoilt l, x) w

pub flow-nothing :
    (l : List ℕ) (a : Got) {store : List ℕ} (out : List ℕ) → found l ≡ nothing → store ≡ zeroed []
    → Flowed l a (noted a Idle a.dropped) store out out
flow-nothing l a out x e = by-found l a x (went_none a Idle out (holds_idle e) (sym (either_false a.dropped)))

pub flow-broken :
    (l : List ℕ) (a : Got) {store : List ℕ} (out : List ℕ) → found l ≡ broken → store ≡ zeroed []
    → Flowed l a (noted a Idle true) store out out
flow-broken l a out x e = by-found l a x (went_none a Idle out (holds_idle e) (sym (either_true a.dropped)))

pub flow-cut :
    (l : List ℕ) (a : Got) {store : List ℕ} (out : List ℕ) {g v part : ℕ} → found l ≡ cut g v part → Bits g v part → store ≡ zeroed []
    → Flowed l a (noted a (Head g v part) a.dropped) store out out
flow-cut l a out {g} {v} {part} x h e =
    by-found l a x
    (went_none a (Head g v part) out (record { good = h; run = refl; kept = e }) (sym (either_false a.dropped)))

pub flow-held :
    (l : List ℕ) (a : Got) {store : List ℕ} (out : List ℕ) {h part n : ℕ} {k : List ℕ} → found l ≡ whole h part k
    → length k ≡ n → n < size_of h → h < 2 ^ 16 → store ≡ sets (zeroed []) 0 k
    → Flowed l a (noted a (Body h part n) a.dropped) store out out
flow-held l a out {h} {part} {n} {k} x y f g e =
    let u : length k < size_of h = rw y f in
    let s = headed-short h part k u in
    let z : 0 + length k ≤ store_length = omega arith in
    by-found l a x
    (rw (s.0, s.1, s.2, lt-leb _ _ u)
    (went_none a (Body h part n) out
    (record { good = (g, found_part l x, omega arith); run = rw y; kept = e ∙ zeroed-more [] k z })
    (sym (either_false a.dropped))))

pub flow-on :
    (l : List ℕ) (a : Got) {r : Got} {store old mid new : List ℕ} {h part : ℕ} {k : List ℕ} → found l ≡ whole h part k
    → size_of h ≤ length k
    → mid ≡ sets old a.written (record_of (block_with h part (take (size_of h) k)))
    → Flowed (drop (size_of h) k)
    (record { run = Idle; blocks = a.blocks + 1; written = a.written + 4 + size_of h; dropped = a.dropped }) r store mid new
    → Flowed l a r store old new
flow-on l a {r} {store} {old} {mid} {new} {h} {part} {k} x f e w =
    let s = headed-long h part k f in
    let y : length (take (size_of h) k) ≡ size_of h = length-take-le (size_of h) k f in
    let o = went_one a h part (take (size_of h) k) {old = old} {new = mid} e in
    by-found l a x (rw (s.0, s.1, s.2) (went_on (rw y at o) w))

-- ---- the loop from the pointed byte on

-- what has come so far, where nothing runs
abbrev pub place : Bool → ℕ → ℕ → Got
place d blocks written = record { run = Idle; blocks = blocks; written = written; dropped = d }

-- what comes of l' from b is what comes of l from a
abbrev pub Leads : List ℕ → Got → List ℕ → List ℕ → Got → List ℕ → Type 0
Leads l a old l' b mid = (r : Got) (store new : List ℕ) → Flowed l' b r store mid new → Flowed l a r store old new

-- which block ran before doesn't count
pub from_place :
    {m : Mode} {bs : List Block} {d : Bool} (a : Got) {r : Got} {store old new : List ℕ}
    → Went m bs d (place a.dropped a.blocks a.written) r store old new → Went m bs d a r store old new
from_place a w =
    record { holds = w.holds; blocks = w.blocks; written = w.written; dropped = w.dropped; out = w.out }

-- ---- the 39 bytes of a packet, by its pointer p; the code lends the parts of the packet, and has n by p

module _ (p : ℕ) {n : ℕ} (e : n ≡ pointed_by p) where
  small : p ≤ 12 → n ≡ 3 * p
  small l = e ∙ rw (le-leb _ _ l)

  thirteen : p ≡ 13 → n ≡ 39
  thirteen f = let k : 12 < p = omega (arith, f) in e ∙ rw (lt-leb _ _ k, eq-eqb _ _ f)

  over : 13 < p → n ≡ 40
  over h =
      let k : 12 < p = omega arith in
      let j : p ≡ 13 → ⊥ = λ i. omega arith in
      e ∙ rw (lt-leb _ _ k, ne_eqb _ _ j)

  three : {A : Type 0} → (p ≤ 12 → A) → (p ≡ 13 → A) → (13 < p → A) → A
  three f g h =
      elim (dec_lt 12 p) [
        | yes k ↦ elim (dec_lt 13 p) [ yes j ↦ h j | no j ↦ g (omega arith) ]
        | no k ↦ f (omega arith)
      ]

  by-pointed : n < 39 → (p ≤ 12) × (n ≡ 3 * p)
  by-pointed h = three (λ l. (l, small l)) (λ f. absurd (omega (arith, thirteen f, h))) (λ k. absurd (omega (arith, over k, h)))

  by-none : n ≡ 39 → p ≡ 13
  by-none h = three (λ l. absurd (omega (arith, small l, l, h))) (λ f. f) (λ k. absurd (omega (arith, over k, h)))

  by-skipped : 39 < n → 13 < p
  by-skipped h = three (λ l. absurd (omega (arith, small l, l, h))) (λ f. absurd (omega (arith, thirteen f, h))) (λ i. i)

module _ (j : Bool) (m : Mode) (p : ℕ) (packet : List ℕ) (a : Got) {n : ℕ} {old : List ℕ} (e : n ≡ pointed_by p) where
  pub read-pointed :
      {b r : Got} {between store mid new : List ℕ} → n < 39 → ContinuedTo j m (take (3 + n - 3) (drop 3 packet)) a b between old mid
      → Flowed (take (length packet - (3 + n)) (drop (3 + n) packet)) b r store mid new
      → ReadPacket j m p (drop 3 packet) a r store old new
  read-pointed h x y =
      let k = by-pointed p e h in
      rw (le-leb _ _ k.0, drop-drop)
      (went_on (rw (k.1, part_of 3 (3 * p) packet) at x) (rw (k.1, part-rest (3 + 3 * p) packet) at y))

  pub read-unpointed :
      {r : Got} {store new : List ℕ} → length packet ≡ packet_length → n ≡ 39 → ContinuedOn j m (take (3 + n - 3) (drop 3 packet)) a r store old new
      → ReadPacket j m p (drop 3 packet) a r store old new
  read-unpointed z h x =
      let f = by-none p e h in
      let k : 12 < p = omega (arith, f) in
      let w : 3 + n - 3 ≡ length packet - 3 = omega (arith, z, h) in
      rw (lt-leb _ _ k, eq-eqb _ _ f) (rw (w, part-rest 3 packet) at x)

  pub read-skipped :
      {r : Got} {store : List ℕ} → 39 < n → Lost true m a r store old → ReadPacket j m p (drop 3 packet) a r store old old
  read-skipped h w =
      let f = by-skipped p e h in
      let i : 12 < p = omega (arith, f) in
      let j : p ≡ 13 → ⊥ = λ z. omega (arith, f, z) in
      rw (lt-leb _ _ i, ne_eqb _ _ j, both_right) w
