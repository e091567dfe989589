-- What a packet of our writer, or one that may stand between, is to the reader that hears it: itself, or, where two flips are allowed,
-- one that can't be read. Assumes nothing.
use mathlib.Core.Path.{◌≡◌, ◌∙◌, refl, sym, ap, ap₂}
use mathlib.Core.Bool.{Bool, true, false}
use mathlib.Core.Logic.{◌⊎◌, inl, inr, ⊎_elim}
use mathlib.Core.List.{List, [], ◌∷◌, ◌++◌, map}
use Prim.Native.Nat.{ℕ, zero, suc, ◌+◌, ◌*◌, ◌/◌, ◌%◌, ◌≤◌, ◌<◌}
use native.Mathlib.Omega.{arith}
use lib.Dec.{eqb, leb}
use lib.ListN.{length, get_or, drop}
use lib.Seq.{get_or-drop}
use borrow.Author.Tests.{lt-ltb, eq-eqb, ne_eqb, le-leb, eqb-true}
use Rattle.laws.specs.Each.{Each, nil, and}
use Rattle.laws.specs.Pick.{pick, both}
use Rattle.octet.specs.Image.{image}
use Rattle.octet.specs.Decoding.{nib, undecodable}
use Rattle.packet.specs.declared.Setting.{Setting}
use Rattle.packet.specs.Packet.{packet_length, address, packet_zero, packet_of}
use Rattle.packet.specs.Address.{decodes}
use Rattle.pages.specs.Headers.{Seen, junk, other, foreign, ours, packet_y, see_zero}
use Rattle.pages.specs.Seen.{see, see_y}
use Rattle.pages.proofs.Judged.{sees, see-junk}
use Rattle.claims.specs.Noise.{Hears, Near, more, Elsewhere}
use Rattle.claims.specs.CutLine.{magazine_in, number_in, Readable, of_other, of-header, of_row}
use Rattle.claims.specs.Mingled.{Kind, elsewhere, header, row, OtherPage, OtherRow, Rightly}
use Rattle.claims.proofs.Losing.{near-length, near-drop}

-- l begins with bytes that decode to these nibbles
pub data Reads : List ℕ → List ℕ → Type 0 where
  done : {l : List ℕ} → Reads [] l
  reads : {n b : ℕ} {ns l : List ℕ} → nib b ≡ n → Reads ns l → Reads (n ∷ ns) (b ∷ l)

reads_at : {ns l : List ℕ} → Reads ns l → (i : ℕ) → i < length ns → nib (get_or l i 0) ≡ get_or ns i 0
reads_at done i h = absurd (omega arith)
reads_at (reads e r) zero h = e
reads_at (reads e r) (suc i) h = reads_at r i (omega arith)

reads-decodes : {ns l : List ℕ} → Each (λ n. n < 16) ns → Reads ns l → decodes (length ns) l ≡ true
unfolding decodes
reads-decodes nil done = refl
reads-decodes (and {a = n} h t) (reads {b = b} e r) =
    let f : nib b < 16 = omega arith in
    rw (lt-ltb (nib b) 16 f) (reads-decodes t r)

-- images with noise are read, or, with two flips, one of them can't be
nibbles-heard :
    (R : ℕ → ℕ → Type 0) (L : Type 0) → Hears R L → (ns rest : List ℕ) {q : List ℕ} → Each (λ n. n < 16) ns → Near R (map image ns ++ rest) q
    → Reads ns q ⊎ ((decodes (length ns) q ≡ false) × L)
unfolding decodes
nibbles-heard R L hears [] rest nil n = inl done
nibbles-heard R L hears (n ∷ ns) rest (and h t) (more {b = b} f k) = go (hears n b h f) (nibbles-heard R L hears ns rest t k)
  where
    go :
        {q : List ℕ} → (nib b ≡ n) ⊎ ((nib b ≡ undecodable) × L)
        → Reads ns q ⊎ ((decodes (length ns) q ≡ false) × L)
        → Reads (n ∷ ns) (b ∷ q) ⊎ ((decodes (suc (length ns)) (b ∷ q) ≡ false) × L)
    go (inl e) (inl r) = inl (reads e r)
    go (inl e) (inr w) = inr (rw (lt-ltb (nib b) 16 (rw e h)) w.0, w.1)
    go (inr w) r = inr (rw w.0, w.1)

-- ---- the address

abbrev addressed : ℕ → ℕ → List ℕ
addressed magazine y = (magazine % 8 + 8 * (y % 2)) ∷ (y / 2) ∷ []

addressed-nibbles : (magazine y : ℕ) → y < 32 → Each (λ n. n < 16) (addressed magazine y)
addressed-nibbles magazine y h =
    let a : magazine % 8 + 8 * (y % 2) < 16 = omega arith in
    let b : y / 2 < 16 = omega arith in
    and a (and b nil)

-- a packet of our magazine is seen by its number
see_ours :
    (s : Setting) (y : ℕ) {q : List ℕ} → y < 32 → length q ≡ packet_length → Reads (addressed s.magazine y) q → see s q ≡ see_y s y q
see_ours s y {q} h long r =
    let m : (s.magazine % 8 + 8 * (y % 2)) % 8 ≡ s.magazine % 8 = omega arith in
    let n : (s.magazine % 8 + 8 * (y % 2)) / 8 + 2 * (y / 2) ≡ y = omega arith in
    sees s q long
    ∙ rw (
      reads-decodes (addressed-nibbles s.magazine y h) r,
      reads_at r 0 (omega arith),
      reads_at r 1 (omega arith),
      m,
      n,
      eq-eqb (s.magazine % 8) (s.magazine % 8) refl,
    )

see-elsewhere :
    (s : Setting) (magazine y : ℕ) {q : List ℕ} → y < 32 → length q ≡ packet_length → (magazine % 8 ≡ s.magazine % 8 → ⊥)
    → Reads (addressed magazine y) q → see s q ≡ other
see-elsewhere s magazine y {q} h long z r =
    let m : (magazine % 8 + 8 * (y % 2)) % 8 ≡ magazine % 8 = omega arith in
    sees s q long
    ∙ rw
    (reads-decodes (addressed-nibbles magazine y h) r, reads_at r 0 (omega arith), m, ne_eqb (magazine % 8) (s.magazine % 8) z)

-- the address with noise is read, or, with two flips, can't be
address-heard :
    (R : ℕ → ℕ → Type 0) (L : Type 0) → Hears R L → (magazine y : ℕ) (rest : List ℕ) {q : List ℕ} → y < 32 → Near R (address magazine y ++ rest) q
    → Reads (addressed magazine y) q ⊎ ((decodes 2 q ≡ false) × L)
address-heard R L hears magazine y rest h n =
    nibbles-heard R L hears (addressed magazine y) rest (addressed-nibbles magazine y h) n

pub elsewhere-heard :
    (R : ℕ → ℕ → Type 0) (L : Type 0) → Hears R L → (s : Setting) {q : List ℕ} → Elsewhere R s q → (see s q ≡ other) ⊎ ((see s q ≡ junk) × L)
elsewhere-heard R L hears s {q} e = go (address-heard R L hears e.magazine e.y e.rest e.number e.near)
  where
    long : length q ≡ packet_length
    long = omega (arith, near-length e.near, e.long)

    go :
        Reads (addressed e.magazine e.y) q ⊎ ((decodes 2 q ≡ false) × L)
        → (see s q ≡ other) ⊎ ((see s q ≡ junk) × L)
    go (inl r) = inl (see-elsewhere s e.magazine e.y e.number long e.differs r)
    go (inr w) = inr (see-junk s q w.0, w.1)

-- ---- packet 0

pub not_both : (a b c d : ℕ) → ((a ≡ b) × (c ≡ d) → ⊥) → both (eqb a b) (eqb c d) ≡ false
not_both a b c d z = go (eqb a b) (eqb c d) refl refl
  where
    go : (t u : Bool) → eqb a b ≡ t → eqb c d ≡ u → both t u ≡ false
    go true true e f = absurd (z (eqb-true a b e, eqb-true c d f))
    go true false e f = refl
    go false u e f = refl

zero_junk : (s : Setting) (l : List ℕ) → decodes 6 l ≡ false → see_zero s l ≡ junk
unfolding see_zero
zero_junk s l e = rw e

see_y_zero : (s : Setting) (q : List ℕ) → see_y s 0 q ≡ see_zero s (drop 2 q)
unfolding see_y
see_y_zero s q = refl

-- a packet 0 of our magazine is what its six nibbles are seen as
header-heard :
    (R : ℕ → ℕ → Type 0) (L : Type 0) → Hears R L → (s : Setting) (x : Seen) (ns rest : List ℕ) {q : List ℕ} → length ns ≡ 6 → Each (λ n. n < 16) ns
    → ((l : List ℕ) → Reads ns l → see_zero s l ≡ x) → length q ≡ packet_length → Near R (address s.magazine 0 ++ (map image ns ++ rest)) q
    → (see s q ≡ x) ⊎ ((see s q ≡ junk) × L)
header-heard R L hears s x ns rest {q} six small seen long near =
    go (address-heard R L hears s.magazine 0 _ (omega arith) near) (nibbles-heard R L hears ns rest small (near-drop 2 near))
  where
    go :
        Reads (addressed s.magazine 0) q ⊎ ((decodes 2 q ≡ false) × L)
        → Reads ns (drop 2 q) ⊎ ((decodes (length ns) (drop 2 q) ≡ false) × L)
        → (see s q ≡ x) ⊎ ((see s q ≡ junk) × L)
    go (inr w) r = inr (see-junk s q w.0, w.1)
    go (inl a) (inl r) = inl (see_ours s 0 (omega arith) long a ∙ see_y_zero s q ∙ seen (drop 2 q) r)
    go (inl a) (inr w) = inr (see_ours s 0 (omega arith) long a ∙ see_y_zero s q ∙ zero_junk s (drop 2 q) (rw six at w.0), w.1)

-- the six nibbles from page units to S4
abbrev six_of : Setting → ℕ → ℕ → List ℕ
six_of s index n = (s.page % 16) ∷ (s.page / 16) ∷ index ∷ (n % 8) ∷ s.stream ∷ (n / 8) ∷ []

module _ (s : Setting) (page : s.page < 256) (stream : s.stream < 16) (index n : ℕ) (small-index : index < 16) (small_n : n ≤ 25) where
  pub six-nibbles : Each (λ x. x < 16) (six_of s index n)
  six-nibbles =
      let u : s.page % 16 < 16 = omega arith in
      let t : s.page / 16 < 16 = omega arith in
      let low : n % 8 < 16 = omega arith in
      let high : n / 8 < 16 = omega arith in
      and u (and t (and small-index (and low (and stream (and high nil)))))

  zero_seen : (l : List ℕ) → Reads (six_of s index n) l → see_zero s l ≡ ours index n
  unfolding see_zero
  zero_seen l r =
      let p : s.page % 16 + 16 * (s.page / 16) ≡ s.page = omega arith in
      let c : n % 8 % 8 + 8 * (n / 8 % 4) ≡ n = omega arith in
      rw (
        reads-decodes six-nibbles r,
        reads_at r 0 (omega arith),
        reads_at r 1 (omega arith),
        reads_at r 2 (omega arith),
        reads_at r 3 (omega arith),
        reads_at r 4 (omega arith),
        reads_at r 5 (omega arith),
        p,
        c,
        eq-eqb s.page s.page refl,
        eq-eqb s.stream s.stream refl,
      )

  pub zero-heard :
      (R : ℕ → ℕ → Type 0) (L : Type 0) → Hears R L → {q : List ℕ} → Near R (packet_zero s index n) q → (see s q ≡ ours index n) ⊎ ((see s q ≡ junk) × L)
  unfolding packet_zero
  zero-heard R L hears near =
      header-heard R L hears s (ours index n) (six_of s index n) _ refl six-nibbles zero_seen (sym (near-length near)) near

-- one of another page or stream
module _ (s : Setting) (units tens s1 s2 s3 s4 : ℕ) (small : Each (λ n. n < 16) (units ∷ tens ∷ s1 ∷ s2 ∷ s3 ∷ s4 ∷ []))
    (differs : (units + 16 * tens ≡ s.page) × (s3 ≡ s.stream) → ⊥) where
  other-seen : (l : List ℕ) → Reads (units ∷ tens ∷ s1 ∷ s2 ∷ s3 ∷ s4 ∷ []) l → see_zero s l ≡ foreign
  unfolding see_zero
  other-seen l r =
      rw (
        reads-decodes small r,
        reads_at r 0 (omega arith),
        reads_at r 1 (omega arith),
        reads_at r 4 (omega arith),
        not_both (units + 16 * tens) s.page s3 s.stream differs,
      )

other-page-heard :
    (R : ℕ → ℕ → Type 0) (L : Type 0) → Hears R L → (s : Setting) {q : List ℕ} → OtherPage R s q → (see s q ≡ foreign) ⊎ ((see s q ≡ junk) × L)
other-page-heard R L hears s e =
    header-heard R L hears s foreign _ e.rest refl e.nibbles (other-seen s _ _ _ _ _ _ e.nibbles e.differs)
    (omega (arith, near-length e.near, e.long)) e.near

-- ---- packets 1 to 25

-- what becomes of a packet y with pointer p
pub data PacketHeard (L : Type 0) (s : Setting) (y p : ℕ) (q : List ℕ) : Type 0 where
  read : see s q ≡ packet_y y p (drop 3 q) → PacketHeard L s y p q
  skipped : {cs : List ℕ} → L → see s q ≡ packet_y y undecodable cs → PacketHeard L s y p q
  unread : L → see s q ≡ junk → PacketHeard L s y p q

see_y-packet : (s : Setting) (y : ℕ) (q : List ℕ) → 1 ≤ y → y ≤ 25 → see_y s y q ≡ packet_y y (nib (get_or q 2 0)) (drop 3 q)
unfolding see_y
see_y-packet s y q h k = rw (ne_eqb y 0 (λ e. omega arith), le-leb y 25 k)

pub packet-heard :
    (R : ℕ → ℕ → Type 0) (L : Type 0) → Hears R L → (s : Setting) (y p : ℕ) (bytes : List ℕ) {q : List ℕ} → 1 ≤ y → y ≤ 25 → p < 16
    → length bytes ≡ 39 → Near R (packet_of s y p bytes) q → PacketHeard L s y p q
unfolding packet_of
packet-heard R L hears s y p bytes {q} least most h size near =
    go (address-heard R L hears s.magazine y _ (omega arith) near) (pointer-heard (near-drop 2 near))
  where
    pointer-heard : {l : List ℕ} → Near R (image p ∷ bytes) l → (nib (get_or l 0 0) ≡ p) ⊎ ((nib (get_or l 0 0) ≡ undecodable) × L)
    pointer-heard (more {b = b} f n) = hears p b h f

    long : length q ≡ packet_length
    long = omega (arith, near-length near, size)

    seen : Reads (addressed s.magazine y) q → see s q ≡ packet_y y (nib (get_or q 2 0)) (drop 3 q)
    seen a = see_ours s y (omega arith) long a ∙ see_y-packet s y q least most

    at-two : nib (get_or (drop 2 q) 0 0) ≡ nib (get_or q 2 0)
    at-two = ap nib (get_or-drop 2 q 0 0)

    go :
        Reads (addressed s.magazine y) q ⊎ ((decodes 2 q ≡ false) × L)
        → (nib (get_or (drop 2 q) 0 0) ≡ p) ⊎ ((nib (get_or (drop 2 q) 0 0) ≡ undecodable) × L)
        → PacketHeard L s y p q
    go (inr w) r = unread w.1 (see-junk s q w.0)
    go (inl a) (inl e) = read (seen a ∙ ap (λ (x : ℕ). packet_y y x (drop 3 q)) (sym at-two ∙ e))
    go (inl a) (inr w) = skipped w.1 (seen a ∙ ap (λ (x : ℕ). packet_y y x (drop 3 q)) (sym at-two ∙ w.0))

-- ---- what may stand between

-- what becomes of a packet of each kind
pub data Beside (L : Type 0) : Kind → Seen → Type 0 where
  passed : Beside L elsewhere other
  named : Beside L header foreign
  numbered : {y p : ℕ} {l : List ℕ} → Beside L row (packet_y y p l)
  high : Beside L row other
  lost : {kind : Kind} → L → Beside L kind junk

pub beside_row : (L : Type 0) (s : Setting) (y : ℕ) (q : List ℕ) → (y ≡ 0 → ⊥) → Beside L row (see_y s y q)
unfolding see_y
beside_row L s y q z = rw (ne_eqb y 0 z) (go (leb y 25))
  where
    go : (t : Bool) → Beside L row (pick t (packet_y y (nib (get_or q 2 0)) (drop 3 q)) other)
    go true = numbered
    go false = high

module _ (R : ℕ → ℕ → Type 0) (L : Type 0) (hears : Hears R L) (s : Setting) where
  -- another packet of our magazine
  row-heard : {q : List ℕ} → OtherRow R s q → Beside L row (see s q)
  row-heard {q} e = go (address-heard R L hears s.magazine e.y e.rest e.number e.near)
    where
      long : length q ≡ packet_length
      long = omega (arith, near-length e.near, e.long)

      go : Reads (addressed s.magazine e.y) q ⊎ ((decodes 2 q ≡ false) × L) → Beside L row (see s q)
      go (inl a) = rw (see_ours s e.y e.number long a) (beside_row L s e.y q (λ z. omega (arith, e.least)))
      go (inr w) = rw (see-junk s q w.0) (lost w.1)

  pub rightly-heard : (kind : Kind) (q : List ℕ) → Rightly R s kind q → Beside L kind (see s q)
  rightly-heard elsewhere q e = ⊎_elim (λ f. rw f passed) (λ w. rw w.0 (lost w.1)) (elsewhere-heard R L hears s e)
  rightly-heard header q e = ⊎_elim (λ f. rw f named) (λ w. rw w.0 (lost w.1)) (other-page-heard R L hears s e)
  rightly-heard row q e = row-heard e

-- ---- where nothing is lost, what is sent rightly can be read

magazine-read : (magazine y : ℕ) {q : List ℕ} → Reads (addressed magazine y) q → magazine_in q ≡ magazine % 8
magazine-read magazine y r =
    let m : (magazine % 8 + 8 * (y % 2)) % 8 ≡ magazine % 8 = omega arith in
    ap (λ (n : ℕ). n % 8) (reads_at r 0 (omega arith)) ∙ m

number_read : (magazine y : ℕ) {q : List ℕ} → y < 32 → Reads (addressed magazine y) q → number_in q ≡ y
number_read magazine y h r =
    let n : (magazine % 8 + 8 * (y % 2)) / 8 + 2 * (y / 2) ≡ y = omega arith in
    ap₂ (λ (a b : ℕ). a / 8 + 2 * b) (reads_at r 0 (omega arith)) (reads_at r 1 (omega arith)) ∙ n

module _ (R : ℕ → ℕ → Type 0) (hears : Hears R ⊥) (s : Setting) where
  address_read : (magazine y : ℕ) (rest : List ℕ) {q : List ℕ} → y < 32 → Near R (address magazine y ++ rest) q → Reads (addressed magazine y) q
  address_read magazine y rest h n = ⊎_elim (λ r. r) (λ w. absurd w.1) (address-heard R ⊥ hears magazine y rest h n)

  pub rightly-readable : (kind : Kind) (q : List ℕ) → Rightly R s kind q → Readable s q kind
  rightly-readable elsewhere q e =
      let r = address_read e.magazine e.y e.rest e.number e.near in
      of_other (omega (arith, near-length e.near, e.long)) (reads-decodes (addressed-nibbles e.magazine e.y e.number) r)
      (λ m. e.differs (sym (magazine-read e.magazine e.y r) ∙ m))
  rightly-readable header q e =
      let ns = e.units ∷ e.tens ∷ e.s1 ∷ e.s2 ∷ e.s3 ∷ e.s4 ∷ [] in
      let r = address_read s.magazine 0 (map image ns ++ e.rest) (omega arith) e.near in
      let six : Reads ns (drop 2 q) =
      ⊎_elim (λ r. r) (λ w. absurd w.1) (nibbles-heard R ⊥ hears ns e.rest e.nibbles (near-drop 2 e.near)) in
      let at : (i : ℕ) → i < 6 → nib (get_or q (2 + i) 0) ≡ get_or ns i 0 = λ i h. ap nib (sym (get_or-drop 2 q i 0)) ∙ reads_at six i h in
      of-header (omega (arith, near-length e.near, e.long)) (reads-decodes (addressed-nibbles s.magazine 0 (omega arith)) r)
      (magazine-read s.magazine 0 r) (number_read s.magazine 0 (omega arith) r) (reads-decodes e.nibbles six)
      (λ w. e.differs (sym (ap₂ (λ (a b : ℕ). a + 16 * b) (at 0 (omega arith)) (at 1 (omega arith))) ∙ w.0, sym (at 4 (omega arith)) ∙ w.1))
  rightly-readable row q e =
      let r = address_read s.magazine e.y e.rest e.number e.near in
      of_row (omega (arith, near-length e.near, e.long)) (reads-decodes (addressed-nibbles s.magazine e.y e.number) r)
      (magazine-read s.magazine e.y r) (λ z. omega (arith, number_read s.magazine e.y e.number r, e.least))
