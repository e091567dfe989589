-- A page's number, and its place in the list of those that came. Assumes nothing.
use mathlib.Core.Path.{◌≡◌, sym}
use mathlib.Core.Bool.{Bool, true, false}
use mathlib.Core.List.{List, ◌++◌, append-nil}
use Prim.Native.Nat.{ℕ, suc, ◌+◌, ◌*◌, ◌<◌, ◌≤◌}
use native.Mathlib.Numerals.{add-one}
use lib.Dec.{ltb}
use lib.ListN.{length, get_or, take, drop, set, drop_of_length-le}
use lib.Seq.{append_snoc, drop-cons, set_split, take_all, take-suc}
use borrow.Author.Tests.{le-leb, lt-leb, eq-eqb, ne_eqb, ltb-true}
use Rattle.laws.specs.Pick.{both}
use Rattle.laws.proofs.Tests.{both_true}
use Rattle.octet.specs.Decoding.{nib}
use Rattle.packet.specs.Packet.{packet_length}
use Rattle.packet.specs.Address.{address_of}
use Rattle.survey.specs.Pages.{no_page, code_of, stands_at, noted}

-- ---- the number

pub code-short : (p : List ℕ) → (length p ≡ packet_length → ⊥) → no_page ≡ code_of p
unfolding code_of
code-short p h = rw (ne_eqb _ _ h)

module _ (p : List ℕ) (long : length p ≡ packet_length) {a : ℕ} (ea : a ≡ address_of p) where
  pub code-no-zero : 7 < a → no_page ≡ code_of p
  unfolding code_of
  code-no-zero h = rw (eq-eqb _ _ long, ← ea, lt-leb _ _ h)

  module _
      (h : a ≤ 7) {u t s : ℕ} (eu : u ≡ nib (get_or p 2 0)) (et : t ≡ nib (get_or p 3 0)) (es : s ≡ nib (get_or p 6 0)) {b : Bool}
      (eb : b ≡ both (ltb u 16) (both (ltb t 16) (ltb s 16)))
    where
      pub code-broken : b ≡ false → no_page ≡ code_of p
      unfolding code_of
      code-broken k = rw (eq-eqb _ _ long, ← ea, le-leb _ _ h, ← eu, ← et, ← es, ← eb, k)

      pub code-whole : b ≡ true → s + 16 * u + 256 * t + 4096 * a ≡ code_of p
      unfolding code_of
      code-whole k = rw (eq-eqb _ _ long, ← ea, le-leb _ _ h, ← eu, ← et, ← es, ← eb, k)

-- three numbers that are nibbles, as their test has it
pub record Nibbles (u t s : ℕ) : Type 0 where
  pub units : u < 16
  pub tens : t < 16
  pub stream : s < 16

pub nibbles : (u t s : ℕ) → both (ltb u 16) (both (ltb t 16) (ltb s 16)) ≡ true → Nibbles u t s
nibbles u t s h =
    let b = both_true (ltb u 16) (both (ltb t 16) (ltb s 16)) h in
    let d = both_true (ltb t 16) (ltb s 16) b.1 in
    record { units = ltb-true _ _ b.0; tens = ltb-true _ _ d.0; stream = ltb-true _ _ d.1 }

-- ---- its place

module _ (code : ℕ) (l : List ℕ) (i : ℕ) where
  pub note-here : i < length l → stands_at code (get_or l i 0) ≡ true → set l i code ≡ take i l ++ noted code (drop i l)
  unfolding noted
  note-here h e = rw (drop-cons l i 0 h, e) (set_split l i code h)

  pub note-later :
      i < length l → stands_at code (get_or l i 0) ≡ false
      → take (i + 1) l ++ noted code (drop (i + 1) l) ≡ take i l ++ noted code (drop i l)
  unfolding noted
  note-later h e =
      rw (add-one, take-suc l i 0 h, drop-cons l i 0 h, e) (append_snoc (take i l) (get_or l i 0) (noted code (drop (suc i) l)))

  pub note-nowhere : length l ≤ i → l ≡ take i l ++ noted code (drop i l)
  unfolding noted
  note-nowhere h = rw (drop_of_length-le l h, take_all i l h) (sym (append-nil l))
