-- What a packet is seen as, by its address, and the verdict on it. Assumes nothing.
use mathlib.Core.Path.{◌≡◌, refl, sym}
use mathlib.Core.Bool.{Bool, true, false, not}
use mathlib.Core.List.{List}
use Prim.Native.Nat.{ℕ, ◌+◌, ◌*◌, ◌/◌, ◌%◌, ◌≤◌, ◌<◌}
use native.Mathlib.Omega.{arith}
use lib.Dec.{leb, eqb, lit<}
use lib.ListN.{length, get_or, drop}
use borrow.Author.Tests.{le-leb, lt-leb, eq-eqb, ne_eqb}
use Rattle.laws.specs.Pick.{pick, both}
use Rattle.laws.proofs.Picks.{same}
use Rattle.laws.proofs.Tests.{both_first, both-second, both_false}
use Rattle.octet.specs.Decoding.{nib}
use Rattle.packet.specs.declared.Setting.{Setting}
use Rattle.packet.specs.Packet.{packet_length}
use Rattle.packet.specs.Address.{decodes, address_of, elsewhere}
use Rattle.packet.proofs.Addressed.{address-long}
use Rattle.pages.specs.declared.headers.Page.{Page}
use Rattle.pages.specs.declared.headers.Verdict.{Verdict}
use Rattle.pages.specs.Judging.{verdict_of_y, verdict_of}
use Rattle.pages.specs.Headers.{Seen, junk, other, foreign, ours, packet_y, see_zero}
use Rattle.pages.specs.Internal.{seen_zero}
use Rattle.pages.proofs.Seeing.{decodes-at}
use Rattle.pages.specs.Seen.{see_y, see, seen_as}

-- ---- any packet

-- a packet is what its address says
module _ (s : Setting) (p : List ℕ) where
  -- by the two bytes of its address
  pub sees :
      length p ≡ packet_length
      → see s p
      ≡ pick (decodes 2 p) (pick (eqb (nib (get_or p 0 0) % 8) (s.magazine % 8)) (see_y s (nib (get_or p 0 0) / 8 + 2 * nib (get_or p 1 0)) p) other) junk
  unfolding see seen_as
  sees long = rw (eq-eqb _ _ long, address-long p (omega (arith, long))) (go (decodes 2 p) refl)
    where
      x : ℕ
      x = nib (get_or p 0 0) + 16 * nib (get_or p 1 0)

      go :
          (t : Bool) → t ≡ decodes 2 p
          → pick (leb (pick t x 256) 255) (pick (eqb (pick t x 256 % 8) (s.magazine % 8)) (see_y s (pick t x 256 / 8) p) other) junk
          ≡ pick t (pick (eqb (nib (get_or p 0 0) % 8) (s.magazine % 8)) (see_y s (nib (get_or p 0 0) / 8 + 2 * nib (get_or p 1 0)) p) other) junk
      go true q =
          let h : x ≤ 255 = omega (arith, decodes-at 2 0 p q (omega arith), decodes-at 2 1 p q (omega arith)) in
          let u : x % 8 ≡ nib (get_or p 0 0) % 8 = omega arith in
          let v : x / 8 ≡ nib (get_or p 0 0) / 8 + 2 * nib (get_or p 1 0) = omega arith in
          rw (le-leb _ _ h, u, v)
      go false q = refl

  -- an address that can't be decoded
  pub see-junk : decodes 2 p ≡ false → see s p ≡ junk
  unfolding see seen_as address_of
  see-junk e = rw (e, both_false) (same (eqb (length p) packet_length) refl refl)

  -- what is passed by is another magazine's
  pub see-elsewhere : {x : ℕ} → length p ≡ packet_length → x ≡ address_of p → elsewhere s x ≡ true → see s p ≡ other
  unfolding see seen_as elsewhere
  see-elsewhere {x} long e t =
      let m = eqb (x % 8) (s.magazine % 8) in
      rw (← e, eq-eqb _ _ long, both_first (leb x 255) (not m) t) (go m (both-second (leb x 255) (not m) t))
    where
      go : (t : Bool) → not t ≡ true → pick t (see_y s (x / 8) p) other ≡ other
      go true k = cc
      go false k = refl

  module _ (long : length p ≡ packet_length) {x : ℕ} where
    pub as-junk : 255 < x → seen_as s x p ≡ junk
    unfolding seen_as
    as-junk h = rw (eq-eqb _ _ long, lt-leb _ _ h)

    module _ (h : x ≤ 255) where
      pub as-other : (x % 8 ≡ s.magazine % 8 → ⊥) → seen_as s x p ≡ other
      unfolding seen_as
      as-other n = rw (eq-eqb _ _ long, le-leb _ _ h, ne_eqb _ _ n)

      module _ (q : x % 8 ≡ s.magazine % 8) where
        pub as-zero : x / 8 ≡ 0 → seen_as s x p ≡ seen_zero s p
        unfolding seen_as see_y seen_zero
        as-zero z = rw (eq-eqb _ _ long, le-leb _ _ h, eq-eqb _ _ q, eq-eqb _ _ z)

        pub as-over : 25 < x / 8 → seen_as s x p ≡ other
        unfolding seen_as see_y
        as-over z =
            let n : x / 8 ≡ 0 → ⊥ = λ r. omega arith in
            rw (eq-eqb _ _ long, le-leb _ _ h, eq-eqb _ _ q, ne_eqb _ _ n, lt-leb _ _ z)

        pub as-packet : (x / 8 ≡ 0 → ⊥) → x / 8 ≤ 25 → seen_as s x p ≡ packet_y (x / 8) (nib (get_or p 2 0)) (drop 3 p)
        unfolding seen_as see_y
        as-packet n z = rw (eq-eqb _ _ long, le-leb _ _ h, eq-eqb _ _ q, ne_eqb _ _ n, le-leb _ _ z)

-- ---- what is seen

-- what is seen of a packet q: an index is a nibble, and the pointer and the bytes after it are q's
abbrev pub Shaped : List ℕ → Seen → Type 0
Shaped q junk = Unit {0}
Shaped q other = Unit {0}
Shaped q foreign = Unit {0}
Shaped q (ours index n) = index ≤ 15
Shaped q (packet_y y p l) = (p ≡ nib (get_or q 2 0)) × (l ≡ drop 3 q)

pub shaped : (s : Setting) (q : List ℕ) → Shaped q (see s q)
unfolding see seen_as see_y see_zero
shaped s q =
    go (eqb (length q) packet_length) (leb (address_of q) 255) (eqb (address_of q % 8) (s.magazine % 8)) (eqb (address_of q / 8) 0)
    (leb (address_of q / 8) 25)
    (decodes 6 (drop 2 q)) refl
    (both (eqb (nib (get_or (drop 2 q) 0 0) + 16 * nib (get_or (drop 2 q) 1 0)) s.page) (eqb (nib (get_or (drop 2 q) 4 0)) s.stream))
  where
    go :
        (long a b c d e : Bool) → decodes 6 (drop 2 q) ≡ e → (f : Bool)
        → Shaped q
        (pick long
        (pick a
        (pick b
        (pick c
        (pick e
        (pick f (ours (nib (get_or (drop 2 q) 2 0)) (nib (get_or (drop 2 q) 3 0) % 8 + 8 * (nib (get_or (drop 2 q) 5 0) % 4))) foreign)
        junk)
        (pick d (packet_y (address_of q / 8) (nib (get_or q 2 0)) (drop 3 q)) other))
        other)
        junk)
        junk)
    go false a b c d e p f = tt
    go true false b c d e p f = tt
    go true true false c d e p f = tt
    go true true true false true e p f = (refl, refl)
    go true true true false false e p f = tt
    go true true true true d false p f = tt
    go true true true true d true p false = tt
    go true true true true d true p true = omega (arith, decodes-at 6 2 (drop 2 q) (sym p) (lit< tt))

-- ---- the verdict, by what a packet is seen as

module _ (page : Page) (index : ℕ) {x : Seen} where
  pub as-numbered : {r : Verdict} {y q : ℕ} {l : List ℕ} → r ≡ verdict_of_y page index y → x ≡ packet_y y q l → r ≡ verdict_of page index x
  as-numbered e f = rw (e, f)
