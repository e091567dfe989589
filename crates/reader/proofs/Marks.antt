-- Packets up to a mark: only a mark opens or shuts a page, and no bytes of one are read. What packets one after the other have come to is what the
-- definition says of them. Assumes nothing.
use mathlib.Core.Path.{◌≡◌, ◌∙◌, refl, sym}
use mathlib.Core.Bool.{Bool, true, false, not, true≢false}
use mathlib.Core.List.{List}
use Prim.Native.Nat.{ℕ, ◌+◌, ◌-◌, ◌*◌, ◌/◌, ◌%◌, ◌≤◌, ◌<◌}
use native.Mathlib.Nat.{le_refl}
use native.Mathlib.Omega.{arith}
use native.Mathlib.Decide.{dec_lt}
use lib.Dec.{eqb, leb}
use lib.ListN.{length, get_or, drop}
use borrow.Author.Tests.{lt-ltb, le-ltb, ne_eqb, eqb-true, eqb-false, leb-true, le-leb, not-true}
use Rattle.laws.specs.Pick.{pick, both}
use Rattle.laws.proofs.Tests.{both_first, both-second}
use Rattle.octet.specs.Decoding.{nib}
use Rattle.packet.specs.declared.Setting.{Setting}
use Rattle.packet.specs.Packet.{packet_length}
use Rattle.packet.specs.Address.{decodes, address_of, elsewhere}
use Rattle.pages.specs.declared.headers.Page.{Page}
use Rattle.pages.specs.Headers.{Seen, junk, other, foreign, ours, packet_y, see_zero}
use Rattle.pages.specs.Seen.{seen_as, see}
use Rattle.pages.specs.Judging.{verdict_of}
use Rattle.pages.specs.Internal.{seen_zero}
use Rattle.pages.proofs.Judged.{as-junk, as-other, as-zero, as-over, as-packet, see-elsewhere}
use Rattle.walk.specs.Reading.{room}
use Rattle.walk.specs.Internal.{Kept}
use Rattle.walk.proofs.Keeping.{holds_kept}
use Rattle.reader.specs.declared.many.Going.{Going}
use Rattle.reader.specs.declared.many.Gone.{Gone}
use Rattle.reader.specs.Feeding.{does_for}
use Rattle.reader.specs.Many.{Ran, begun}
use Rattle.reader.specs.Internal.{Acted, state_in, ran_from, RanTo, taking, packet_at, Reached, Passed, marks, Along, along-none, along_one, Startable, WentTo, WentOn}
use Rattle.reader.proofs.Heeding.{act-other}
use Rattle.reader.proofs.Running.{packet_length_lem, begins, further, run-full, run_out, passed_by, still_room}

-- ---- a mark by its address

module _ (s : Setting) (x : ℕ) where
  pub mark-over : 255 < x → marks s x ≡ true
  unfolding marks
  mark-over h = rw (lt-ltb _ _ h)

  pub mark-within : x ≤ 255 → marks s x ≡ eqb x (s.magazine % 8)
  unfolding marks
  mark-within h = rw (le-ltb _ _ h)

  pub unmarked-within : marks s x ≡ false → x ≤ 255
  unmarked-within e =
      elim (dec_lt 255 x) [
        | yes h ↦ absurd (true≢false (sym (mark-over h) ∙ e))
        | no h ↦ omega arith
      ]

  pub unmarked-other : marks s x ≡ false → x ≡ s.magazine % 8 → ⊥
  unmarked-other e q = eqb-false x (s.magazine % 8) (sym (mark-within (unmarked-within e)) ∙ e) q

  -- another magazine's packet is none
  pub elsewhere-unmarked : elsewhere s x ≡ true → marks s x ≡ false
  unfolding elsewhere
  elsewhere-unmarked e =
      let h = leb-true x 255 (both_first (leb x 255) _ e) in
      let n = not-true _ (both-second (leb x 255) (not (eqb (x % 8) (s.magazine % 8))) e) in
      let k : x ≡ s.magazine % 8 → ⊥ = λ q. eqb-false (x % 8) (s.magazine % 8) n (omega (arith, q)) in
      mark-within h ∙ ne_eqb _ _ k

  -- a packet of our magazine that is none has a number
  pub unmarked-ours : marks s x ≡ false → elsewhere s x ≡ false → (x % 8 ≡ s.magazine % 8) × (x / 8 ≡ 0 → ⊥)
  unfolding elsewhere
  unmarked-ours e f =
      let h = unmarked-within e in
      go (eqb (x % 8) (s.magazine % 8)) refl (rw (le-leb _ _ h) at f)
    where
      go : (t : Bool) → eqb (x % 8) (s.magazine % 8) ≡ t → not t ≡ false → (x % 8 ≡ s.magazine % 8) × (x / 8 ≡ 0 → ⊥)
      go true q z =
          let m = eqb-true (x % 8) (s.magazine % 8) q in
          (m, λ r. unmarked-other e (omega (arith, m, r)))
      go false q z = absurd (true≢false z)

-- ---- what a mark is seen as, and what any other packet is

abbrev pub Turning : Seen → Type 0
Turning junk = Unit {0}
Turning other = ⊥
Turning foreign = Unit {0}
Turning (ours i n) = Unit {0}
Turning (packet_y y p l) = ⊥

abbrev pub Staying : Seen → Type 0
Staying junk = ⊥
Staying other = Unit {0}
Staying foreign = ⊥
Staying (ours i n) = ⊥
Staying (packet_y y p l) = Unit {0}

zero_turns : (s : Setting) (p : List ℕ) → Turning (seen_zero s p)
unfolding seen_zero see_zero
zero_turns s p =
    go (eqb (length p) packet_length) (decodes 6 (drop 2 p))
    (both (eqb (nib (get_or (drop 2 p) 0 0) + 16 * nib (get_or (drop 2 p) 1 0)) s.page) (eqb (nib (get_or (drop 2 p) 4 0)) s.stream))
  where
    go :
        (long d t : Bool)
        → Turning
        (pick long (pick d (pick t (ours (nib (get_or (drop 2 p) 2 0)) (nib (get_or (drop 2 p) 3 0) % 8 + 8 * (nib (get_or (drop 2 p) 5 0) % 4))) foreign) junk) junk)
    go false d t = tt
    go true false t = tt
    go true true false = tt
    go true true true = tt

module _ (s : Setting) (p : List ℕ) (long : length p ≡ packet_length) (x : ℕ) where
  pub mark-turns : marks s x ≡ true → Turning (seen_as s x p)
  mark-turns e =
      elim (dec_lt 255 x) [
        | yes h ↦ rw (as-junk s p long h) tt
        | no h ↦
            let k : x ≤ 255 = omega arith in
            let q = eqb-true x (s.magazine % 8) (sym (mark-within s x k) ∙ e) in
            rw (as-zero s p long k (omega (arith, q)) (omega (arith, q))) (zero_turns s p)
      ]

  pub unmarked-stays : marks s x ≡ false → Staying (seen_as s x p)
  unfolding elsewhere
  unmarked-stays e = go (elsewhere s x) refl
    where
      h : x ≤ 255
      h = unmarked-within s x e

      go : (t : Bool) → elsewhere s x ≡ t → Staying (seen_as s x p)
      go true f =
          let n = not-true _ (both-second (leb x 255) (not (eqb (x % 8) (s.magazine % 8))) f) in
          rw (as-other s p long h (eqb-false (x % 8) (s.magazine % 8) n)) tt
      go false f =
          let (m, z) = unmarked-ours s x e f in
          elim (dec_lt 25 (x / 8)) [
            | yes k ↦ rw (as-over s p long h m k) tt
            | no k ↦ rw (as-packet s p long h m z (omega arith)) tt
          ]

-- what is seen by a packet's address
pub seen_other : (s : Setting) (p : List ℕ) {x : ℕ} → x ≡ address_of p → seen_as s x p ≡ other → see s p ≡ other
unfolding see
seen_other s p e f = rw e at f

-- no bytes of a mark are read
pub turning_silent : (page : Page) (i : ℕ) (x : Seen) → Turning x → (verdict_of page i x).reads ≡ false
turning_silent page i junk t = refl
turning_silent page i foreign t = refl
turning_silent page i (ours j n) t = refl
turning_silent page i other t = elim t [ ]
turning_silent page i (packet_y _ _ _) t = elim t [ ]

-- ---- packets one after the other

-- what each of them keeps, all of them keep
pub along_by :
    {s : Setting} {alone : Bool} {packets : List ℕ} {limit from : ℕ} {a₀ : Going} {store₀ old : List ℕ} (Step : ℕ → Going → List ℕ → List ℕ → Type 0)
    → ((k : ℕ) (a after : Going) (store store' mid new : List ℕ) → k + 42 ≤ length packets → a.got.written + room ≤ limit
    → (alone ≡ false → marks s (address_of (packet_at packets k)) ≡ false)
    → Acted (see s (packet_at packets k)) (state_in a store) a after store' mid new → Step k a store mid → Step (k + 42) after store' new)
    → {at : ℕ} {a : Going} {store new : List ℕ} → Along s alone packets limit from a₀ store₀ old at a store new → Step from a₀ store₀ old → Step at a store new
along_by Step keeps along-none x = x
along_by Step keeps (along_one {at = k} {a = a} {after = after} {store = store} {store' = store'} {mid = mid} {new = new} w h r m y) x =
    keeps k a after store store' mid new h r m y (along_by Step keeps w x)

module _ (s : Setting) (alone : Bool) (packets : List ℕ) (limit from : ℕ) (a₀ : Going) (store₀ old : List ℕ) where
  abbrev Here : ℕ → Going → List ℕ → List ℕ → Type 0
  Here at a store new = WentTo s alone packets limit from a₀ store₀ old at a store new

  pub went_none : Kept a₀.got.run store₀ → Startable packets from a₀ limit old → Here from a₀ store₀ old
  went_none k b = record { along = along-none; kept = k; onward = le_refl from; still = λ e. refl; start = b; long = refl }

  -- those of other magazines are passed by
  pub went-passed :
      {at to : ℕ} {a : Going} {store new : List ℕ} → Here at a store new → Passed s packets at to → a.got.written + room ≤ limit → Here to a store new
  went-passed {at} {to} {a} {store} {new} w p r =
      record {
        along =
            passed_by (λ (k : ℕ). Along s alone packets limit from a₀ store₀ old k a store new)
            (λ k h e z.
            along_one z h r (λ q. elsewhere-unmarked s (address_of (packet_at packets k)) e)
            (act-other a new w.kept (see-elsewhere s (packet_at packets k) (packet_length_lem packets k h) refl e)))
            p.by w.along;
        kept = w.kept;
        onward = omega (arith, w.onward, p.onward);
        still = λ e. w.still (omega (arith, e, w.onward, p.onward));
        start = record { within = p.within; even = p.even; fits = w.start.fits; few = w.start.few; room = w.start.room };
        long = w.long;
      }

  -- one packet more
  pub went_one :
      {at : ℕ} {a after : Going} {store store' mid new : List ℕ} → Here at a store mid → at + 42 ≤ length packets → a.got.written + room ≤ limit
      → (alone ≡ false → marks s (address_of (packet_at packets at)) ≡ false) → length new ≡ length mid
      → Acted (see s (packet_at packets at)) (state_in a store) a after store' mid new → Here (at + 42) after store' new
  went_one {at} {a} {after} {store} {store'} {mid} {new} w h r m l x =
      let g = still_room s (packet_at packets at) (state_in a store) w.kept.good (packet_length_lem packets at h) x w.start.few in
      record {
        along = along_one w.along h r m x;
        kept = holds_kept _ x.went.holds;
        onward = omega (arith, w.onward);
        still = λ e. absurd (omega (arith, e, w.onward));
        start =
            record {
              within = h;
              even = omega (arith, w.start.even, h);
              fits = omega (arith, g.0, r);
              few = g.1;
              room = omega (arith, w.start.room, l);
            };
        long = l ∙ w.long;
      }

  -- and then those up to a mark
  pub went_then :
      {at to : ℕ} {a after : Going} {store store' mid new : List ℕ} → Here at a store mid → WentTo s false packets limit at a store mid to after store' new
      → Here to after store' new
  went_then {at} {to} w z =
      record {
        along = along_by (λ (k : ℕ) (a : Going) (x y : List ℕ). Along s alone packets limit from a₀ store₀ old k a x y) (λ k b after x x' y y' h r m u v. along_one v h r (λ q. m refl) u) z.along w.along;
        kept = z.kept;
        onward = omega (arith, w.onward, z.onward);
        still = λ e. z.still (omega (arith, e, w.onward, z.onward)) ∙ w.still (omega (arith, e, w.onward, z.onward));
        start = z.start;
        long = z.long ∙ w.long;
      }

-- all of them, for a reader that is alone
pub went_all :
    (s : Setting) (packets : List ℕ) (a : Going) (store out : List ℕ) {r : Gone Going} {store' new : List ℕ} → Kept a.got.run store
    → (a.got.blocks ≡ 0) × (a.got.written ≡ 0) × (a.got.dropped ≡ false) → WentOn s true packets (length out) 0 a store out r store' new
    → RanTo (ran_from s (length out) a store packets) (taking r.going (r.at / packet_length)) store' out new
went_all s packets a store out {r} {store'} {new} k z w = go r.full refl
  where
    whole : Ran
    whole = ran_from s (length out) a store packets

    e : length packets - 0 ≡ length packets
    e = omega arith

    reached : Reached s (length out) packets r.at r.going store' out new whole
    reached =
        along_by (λ (k : ℕ) (a : Going) (x y : List ℕ). Reached s (length out) packets k a x out y whole) (λ k b after x x' y y' h r m u v. further s (length out) packets k h r u v)
        w.went.along (begun (state_in a store), begins a out k z.0 z.1 z.2, rw e)

    go : (t : Bool) → r.full ≡ t → RanTo whole (taking r.going (r.at / packet_length)) store' out new
    go true f =
        let (b, x, q) = reached in
        rw (sym (run-full (does_for s) (length out) packets r.at b (omega (arith, x.came.written, w.full f)) ∙ q)) x
    go false f =
        let (b, x, q) = reached in
        let h : length packets ≤ r.at =
        elim (dec_lt r.at (length packets)) [
          | yes h ↦ absurd (true≢false (w.mark f h).0)
          | no h ↦ omega arith
        ] in
        rw (sym (run_out (does_for s) (length out) packets r.at b h ∙ q)) x
