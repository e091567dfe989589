-- Two runs of our writer in two streams of one page, whole pages of the one between whole pages of the other: to a reader of one stream alone that
-- is one run with other pages of our magazine between, since the other's packets 0 name another stream. Assumes nothing.
use mathlib.Core.Path.{◌≡◌, ◌∙◌, refl, ap}
use mathlib.Core.Bool.{Bool, true, false}
use mathlib.Core.List.{List, [], ◌∷◌, ◌++◌, map}
use Prim.Native.Nat.{ℕ, zero, suc, ◌+◌, ◌-◌, ◌/◌, ◌%◌, ◌≤◌, ◌<◌}
use native.Mathlib.Omega.{arith}
use lib.ListN.{length, replicate, drop, length-map}
use Rattle.octet.specs.Image.{image}
use Rattle.packet.specs.declared.Setting.{Setting}
use Rattle.packet.specs.declared.two.Streams.{Streams}
use Rattle.packet.specs.Two.{in_range_of_two}
use Rattle.packet.specs.Packet.{packet_zero, packet_of}
use Rattle.blocks.specs.Block.{blocks}
use Rattle.symbols.specs.Stream.{Symbol, byte_of, per_packet, stream_of, grab, pointer_of}
use Rattle.writer.specs.Cutting.{data_packet, data_packets, after_packets, pages, pages_for, packets}
use Rattle.writer.proofs.Filling.{length-grab}
use Rattle.pages.specs.declared.two.Whose.{Whose}
use Rattle.pages.specs.declared.two.Whose.TheVariants.{First, Second}
use Rattle.pages.specs.Two.{setting_for}
use Rattle.claims.specs.Noise.{Near}
use Rattle.claims.specs.Mingled.{Kind, elsewhere, header, row, Mingled, ended, sent, between, begins, goes, OtherPage, OtherRow, Rightly, Shared}
use Rattle.claims.specs.CutLine.{Readable, from_page, before_page, Resumed}
use Rattle.claims.specs.Differing.{the_other}
use Rattle.claims.specs.Woven.{Woven, of_first, of_second, ended as woven_ended, between as woven_between, begins as woven_begins, goes as woven_goes, cut_for, ToBoth, BothWoven, BothShared, BothClean}
use Rattle.claims.proofs.Hearing.{six-nibbles, rightly-readable}
use Rattle.claims.proofs.Blocks.{range}
use Rattle.claims.proofs.CutLine.{Clean, clean, drop-pages}
use Rattle.claims.proofs.Beside.{each-in-range, others-stream, one-magazine}

-- ---- pages of packets

-- in pages of k packets Z holds of each packet 0 and Y of each other; so many packets of the first page are left
data Paged (Z Y : List ℕ → Type 0) (k : ℕ) : ℕ → List (List ℕ) → Type 0 where
  none : {left : ℕ} → Paged Z Y k left []
  zeroth : {p : List ℕ} {ps : List (List ℕ)} → Z p → Paged Z Y k k ps → Paged Z Y k 0 (p ∷ ps)
  another : {left : ℕ} {p : List ℕ} {ps : List (List ℕ)} → Y p → Paged Z Y k left ps → Paged Z Y k (suc left) (p ∷ ps)

module _ (Z Y : List ℕ → Type 0) (s : Setting) (k : ℕ) (zeros : (index : ℕ) → index < 16 → Z (packet_zero s index k))
    (others : (y : ℕ) (ss : List Symbol) → 1 ≤ y → y ≤ k → Y (data_packet s y ss)) where
  data-paged :
      (w y : ℕ) (ss : List Symbol) {rest : List (List ℕ)} → 1 ≤ y → y + w ≤ suc k → Paged Z Y k 0 rest → Paged Z Y k w (data_packets s w y ss ++ rest)
  unfolding data_packets
  data-paged zero y ss least most r = r
  data-paged (suc w) y ss least most r = another (others y ss least (omega arith)) (data-paged w (suc y) (drop per_packet ss) (omega arith) (omega arith) r)

  pages-paged : (p index : ℕ) → index < 16 → (ss : List Symbol) → Paged Z Y k 0 (pages s k p index ss)
  unfolding pages
  pages-paged zero index low ss = none
  pages-paged (suc p) index low ss =
      zeroth (zeros index low)
      (data-paged k 1 ss (omega arith) (omega arith) (pages-paged p ((index + 1) % 16) (omega arith) (after_packets k ss)))

-- ---- one stream alone

-- the two streams change places
turned :
    {R : ℕ → ℕ → Type 0} {K : Kind → List ℕ → Type 0} {k l m n : ℕ} {begun : Bool} {ps ours rs theirs qs : List (List ℕ)}
    → Woven R K k l m ps ours n rs theirs begun qs → Woven R K l k n rs theirs m ps ours begun qs
turned woven_ended = woven_ended
turned (of_first n a) = of_second n (turned a)
turned (of_second n a) = of_first n (turned a)
turned (woven_between e a) = woven_between e (turned a)
turned (woven_begins e a) = woven_begins e (turned a)
turned (woven_goes e a) = woven_goes e (turned a)

module _ {R : ℕ → ℕ → Type 0} {K J : Kind → List ℕ → Type 0} {k l : ℕ} (among : (kind : Kind) (q : List ℕ) → K kind q → J kind q) where
  -- where the other's packets are to the one stream what may stand between, the mixture is its run with others between
  one-alone :
      {m n : ℕ} {begun : Bool} {ps ours rs theirs qs : List (List ℕ)}
      → Paged (λ p. (q : List ℕ) → Near R p q → J header q) (λ p. (q : List ℕ) → Near R p q → J row q) l n rs
      → (t : Bool) → (1 ≤ n → t ≡ true) → (begun ≡ true → t ≡ true) → Woven R K k l m ps ours n rs theirs begun qs → Mingled R J k m t ps ours qs
  one-alone r t h g woven_ended = ended
  one-alone r t h g (of_first n a) = sent n (one-alone r false (λ x. absurd (omega arith)) (λ e. e) a)
  one-alone (zeroth z r) t h g (of_second {q = q} n a) = begins (z q n) (one-alone r true (λ x. refl) (λ e. refl) a)
  one-alone (another y r) t h g (of_second {q = q} n a) =
      rw (h (omega arith)) (goes (y q n) (one-alone r true (λ x. refl) (λ e. refl) a))
  one-alone r t h g (woven_between {q = q} e a) = between (among elsewhere q e) (one-alone r t h g a)
  one-alone r t h g (woven_begins {q = q} e a) = begins (among header q e) (one-alone r true (λ x. refl) (λ e. refl) a)
  one-alone r t h g (woven_goes {q = q} e a) = rw (g refl) (goes (among row q e) (one-alone r true (λ x. refl) (λ e. refl) a))

-- ---- our writer's packets in another stream

module _ (s t : Setting) (magazine : s.magazine ≡ t.magazine) (R : ℕ → ℕ → Type 0) where
  zero-other :
      s.page < 256 → s.stream < 16 → (s.stream ≡ t.stream → ⊥) → (index k : ℕ) → index < 16 → k ≤ 25 → (q : List ℕ)
      → Near R (packet_zero s index k) q → OtherPage R t q
  unfolding packet_zero
  zero-other page stream z index k low most q n =
      record {
        units = s.page % 16;
        tens = s.page / 16;
        s1 = index;
        s2 = k % 8;
        s3 = s.stream;
        s4 = k / 8;
        rest = image 0 ∷ image 0 ∷ replicate 32 0x20;
        nibbles = six-nibbles s page stream index k low most;
        long = refl;
        differs = λ e. z e.1;
        near = rw (← magazine) n;
      }

  row_other : (y : ℕ) (ss : List Symbol) → 1 ≤ y → y ≤ 25 → (q : List ℕ) → Near R (data_packet s y ss) q → OtherRow R t q
  unfolding packet_of
  row_other y ss least most q n =
      record {
        y = y;
        least = least;
        number = omega arith;
        rest = image (pointer_of (grab per_packet ss)) ∷ map byte_of (grab per_packet ss);
        long = ap suc (length-map (grab per_packet ss) byte_of ∙ length-grab per_packet ss);
        near = rw (← magazine) n;
      }

-- ---- both

module _ (s : Streams) (within : in_range_of_two s ≡ true) (k : Whose → ℕ) (most : (w : Whose) → k w ≤ 25) where
  module _ (R : ℕ → ℕ → Type 0) (K : Setting → Kind → List ℕ → Type 0)
      (rightly : (w : Whose) (kind : Kind) (q : List ℕ) → Rightly R (setting_for w s) kind q → K (setting_for w s) kind q) where
    -- what one stream's run is to the other
    others-paged :
        (w : Whose) (p index : ℕ) → index < 16 → (ss : List Symbol)
        → Paged (λ p. (q : List ℕ) → Near R p q → K (setting_for (the_other w) s) header q)
        (λ p. (q : List ℕ) → Near R p q → K (setting_for (the_other w) s) row q) (k w) 0 (pages (setting_for w s) (k w) p index ss)
    others-paged w p index low ss =
        let one = setting_for w s in
        let two = setting_for (the_other w) s in
        let r = range one (each-in-range s within w) in
        let m = one-magazine s w in
        pages-paged _ _ one (k w)
        (λ index low q n.
        rightly (the_other w) header q (zero-other one two m R r.page r.stream (others-stream s within w) index (k w) low (most w) q n))
        (λ y ss least h q n. rightly (the_other w) row q (row_other one two m R y ss least (omega (arith, most w)) q n)) p index low ss

    each-alone :
        (p index : Whose → ℕ) → ((w : Whose) → index w < 16) → (ss : Whose → List Symbol) (ours : Whose → List (List ℕ)) {qs : List (List ℕ)}
        → BothWoven R (ToBoth K s) k (λ w. pages (setting_for w s) (k w) (p w) (index w) (ss w)) ours qs
        → (w : Whose) → Mingled R (K (setting_for w s)) (k w) 0 false (pages (setting_for w s) (k w) (p w) (index w) (ss w)) (ours w) qs
    each-alone p index low ss ours a First =
        one-alone (λ kind q e. e First) (others-paged Second (p Second) (index Second) (low Second) (ss Second)) false
        (λ x. absurd (omega arith)) (λ e. e) a
    each-alone p index low ss ours a Second =
        one-alone (λ kind q e. e Second) (others-paged First (p First) (index First) (low First) (ss First)) false
        (λ x. absurd (omega arith)) (λ e. e) (turned a)

  module _ (index : Whose → ℕ) (low : (w : Whose) → index w < 16) (records : Whose → List ℕ) where
    -- with noise
    pub each_shared :
        (R : ℕ → ℕ → Type 0) (ours : Whose → List (List ℕ)) {qs : List (List ℕ)} → BothShared R s k (cut_for s index k records) ours qs
        → (w : Whose) → Shared R (setting_for w s) (k w) (cut_for s index k records w) (ours w) qs
    unfolding packets
    each_shared R ours a w =
        each-alone R (Rightly R) (λ w kind q e. e) (λ w. pages_for (k w) (length (stream_of (blocks (records w))))) index low (λ w. stream_of (blocks (records w))) ours a w

    -- undamaged, from a page of each on
    pub each-resumed :
        (j : Whose → ℕ) (ours : Whose → List (List ℕ)) {qs : List (List ℕ)} → BothClean s k (λ w. from_page (k w) (j w) (cut_for s index k records w)) ours qs
        → (w : Whose) → Resumed (setting_for w s) (k w) (j w) (cut_for s index k records w) (ours w) qs
    unfolding packets
    each-resumed j ours {qs} a w =
        let ss : Whose → List Symbol = λ w. stream_of (blocks (records w)) in
        let p : Whose → ℕ = λ w. pages_for (k w) (length (ss w)) in
        let e : (w : Whose) → from_page (k w) (j w) (cut_for s index k records w) ≡ pages (setting_for w s) (k w) (p w - j w) ((index w + j w) % 16) (drop (before_page (k w) (j w)) (ss w)) =
        λ w. drop-pages (setting_for w s) (k w) (p w) (index w) (ss w) (j w) (low w) in
        rw (e w)
        (each-alone Clean (λ one kind q. Readable one q kind) (λ w kind q e. rightly-readable Clean clean (setting_for w s) kind q e) (λ w. p w - j w)
        (λ w. (index w + j w) % 16) (λ w. omega arith) (λ w. drop (before_page (k w) (j w)) (ss w)) ours (rw (e First, e Second) at a) w)
