-- What a packet 0 is seen as, from its bytes, and the verdict on it. Assumes nothing.
use mathlib.Core.Path.{◌≡◌, refl, sym}
use mathlib.Core.Bool.{Bool, true, false, not}
use mathlib.Core.List.{List}
use Prim.Native.Nat.{ℕ, ◌+◌, ◌*◌, ◌%◌, ◌≤◌, ◌<◌}
use native.Mathlib.Omega.{arith}
use lib.Dec.{eqb}
use lib.ListN.{length, get_or, drop}
use lib.Seq.{get_or-drop}
use borrow.Author.Tests.{le-leb, lt-leb, lt-ltb, le-ltb, eqb-true}
use Rattle.laws.specs.Pick.{pick, both, either}
use Rattle.laws.proofs.Tests.{both_first, both-second, both_true, either_true}
use Rattle.octet.specs.Decoding.{nib, undecodable}
use Rattle.packet.specs.declared.Setting.{Setting}
use Rattle.packet.specs.Packet.{packet_length}
use Rattle.packet.specs.Address.{decodes}
use Rattle.pages.specs.declared.headers.Page.{Page}
use Rattle.pages.specs.declared.headers.Page.TheVariants.{Shut, Open}
use Rattle.pages.specs.declared.headers.Verdict.{Verdict}
use Rattle.pages.specs.Judging.{incomplete, verdict_of}
use Rattle.pages.specs.Headers.{Seen, junk, foreign, ours, see_zero}
use Rattle.pages.specs.Internal.{legible, seen_zero}
use Rattle.pages.proofs.Seeing.{decodes-at}

-- ---- packet 0 of our magazine

pub legible-long : (p : List ℕ) → true ≡ legible p → length p ≡ packet_length
legible-long p e = eqb-true _ _ (both_first _ (decodes 6 (drop 2 p)) (sym e))

-- each of the six is a nibble
pub legible-at : (p : List ℕ) (i : ℕ) → true ≡ legible p → i < 6 → nib (get_or p (2 + i) 0) < undecodable
legible-at p i e h =
    let d = decodes-at 6 i (drop 2 p) (sym (both-second (eqb (length p) packet_length) _ (sym e))) h in
    rw (get_or-drop 2 p i 0) at d

-- so the two of its page's number are
pub page_number :
    (p : List ℕ) {u t : ℕ} → true ≡ legible p → u ≡ nib (get_or p 2 0) → t ≡ nib (get_or p 3 0) → (u < undecodable) × (t < undecodable)
page_number p e f g = (rw f (legible-at p 0 e (omega arith)), rw g (legible-at p 1 e (omega arith)))

module _ (s : Setting) (p : List ℕ) where
  pub zero_junk : false ≡ legible p → seen_zero s p ≡ junk
  unfolding seen_zero see_zero
  zero_junk e = go (eqb (length p) packet_length) e
    where
      go : (t : Bool) → false ≡ both t (decodes 6 (drop 2 p)) → pick t (see_zero s (drop 2 p)) junk ≡ junk
      go true e = rw (← e)
      go false e = refl

  module _ (e : true ≡ legible p) {u t : ℕ} (eu : u ≡ nib (get_or p 2 0)) (et : t ≡ nib (get_or p 3 0)) where
    module _ {x : ℕ} (ex : x ≡ nib (get_or p 6 0)) {t' : Bool} (eo : t' ≡ both (eqb (u + 16 * t) s.page) (eqb x s.stream)) where
      pub zero-foreign : t' ≡ false → seen_zero s p ≡ foreign
      unfolding seen_zero see_zero
      zero-foreign n =
          let b = both_true (eqb (length p) packet_length) (decodes 6 (drop 2 p)) (sym e) in
          rw (b.0, b.1, get_or-drop 2 p 0 0, get_or-drop 2 p 1 0, get_or-drop 2 p 4 0, ← eu, ← et, ← ex, ← eo, n)

      pub zero-ours :
          {i a b : ℕ} → t' ≡ true → i ≡ nib (get_or p 4 0) → a ≡ nib (get_or p 5 0) → b ≡ nib (get_or p 7 0)
          → seen_zero s p ≡ ours i (a % 8 + 8 * (b % 4))
      unfolding seen_zero see_zero
      zero-ours r ei ea eb =
          let b = both_true (eqb (length p) packet_length) (decodes 6 (drop 2 p)) (sym e) in
          rw
          (b.0, b.1, get_or-drop 2 p 0 0, get_or-drop 2 p 1 0, get_or-drop 2 p 2 0, get_or-drop 2 p 3 0, get_or-drop 2 p 4 0, get_or-drop 2 p 5 0, ← eu, ← et, ← ex, ← eo, r, ← ei, ← ea, ← eb)

-- ---- the verdict, by what a packet is seen as

module _ (page : Page) (index : ℕ) {x : Seen} where
  pub as-lost :
      {r : Verdict} → r ≡ record { page = Shut; index = index; drops = true; opens = false; reads = false } → x ≡ junk → r ≡ verdict_of page index x
  as-lost e f = rw (e, f)

  pub as-foreign :
      {r : Verdict} {t : Bool} → r ≡ record { page = Shut; index = index; drops = t; opens = false; reads = false } → t ≡ incomplete page → x ≡ foreign
      → r ≡ verdict_of page index x
  as-foreign e g f = rw (e, g, f)

  -- n is over 25
  pub as_many :
      {r : Verdict} {i n : ℕ} → r ≡ record { page = Shut; index = i; drops = true; opens = false; reads = false } → 25 < n → x ≡ ours i n
      → r ≡ verdict_of page index x
  as_many {i = i} {n = n} e h f = rw (e, f, lt-leb n 25 h, lt-ltb 25 n h, either_true)

  pub as-ours :
      {t : Bool} {i n : ℕ} → t ≡ either (incomplete page) (not (eqb i ((index + 1) % 16))) → n ≤ 25 → x ≡ ours i n
      → record { page = Open n 0; index = i; drops = t; opens = true; reads = false } ≡ verdict_of page index x
  as-ours {n = n} e h f = rw (e, f, le-leb n 25 h, le-ltb 25 n h)
