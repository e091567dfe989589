-- How the bytes that can't be decoded are counted: one byte, one byte more, and which packet is then handed back. Assumes nothing.
use mathlib.Core.Path.{◌≡◌, sym}
use mathlib.Core.Bool.{Bool, true, false}
use mathlib.Core.List.{List, [], ◌∷◌}
use Prim.Native.Nat.{ℕ, suc, ◌+◌, ◌<◌, ◌≤◌}
use native.Mathlib.Nat.{add-zero}
use native.Mathlib.Numerals.{add-one}
use native.Mathlib.Omega.{arith}
use borrow.Author.Tests.{eq-eqb, ne_eqb, lt-ltb, le-ltb}
use lib.Dec.{eqb}
use lib.ListN.{length, get_or, drop}
use lib.Seq.{drop-cons}
use Rattle.laws.specs.Pick.{pick}
use Rattle.octet.specs.Decoding.{nib, undecodable}
use Rattle.packet.specs.Packet.{packet_length}
use Rattle.aerials.specs.Better.{judged_bytes, address_length, broken_in, better_of, better_at, behind}

pub lost_yes : (b : ℕ) → nib b ≡ undecodable → 1 ≡ broken_in 1 (b ∷ [])
unfolding broken_in
lost_yes b e = rw (eq-eqb _ _ e)

pub lost_no : (b : ℕ) → (nib b ≡ undecodable → ⊥) → 0 ≡ broken_in 1 (b ∷ [])
unfolding broken_in
lost_no b e = rw (ne_eqb _ _ e)

pub lost_le : (b : ℕ) → broken_in 1 (b ∷ []) ≤ 1
unfolding broken_in
lost_le b = go (eqb (nib b) undecodable)
  where
    go : (t : Bool) → pick t 1 0 + 0 ≤ 1
    go true = omega arith
    go false = omega arith

pub broken-step :
    (s : List ℕ) (i k n : ℕ) → i < length s
    → n + broken_in 1 (get_or s i 0 ∷ []) + broken_in k (drop (i + 1) s) ≡ n + broken_in (suc k) (drop i s)
unfolding broken_in
broken-step s i k n h = rw (add-one i, drop-cons s i 0 h) (omega arith)

pub broken-end : (s : List ℕ) (i n k : ℕ) → k ≡ 0 → n ≡ n + broken_in k (drop i s)
unfolding broken_in
broken-end s i n k e = rw e (sym (add-zero n))

-- ---- what is handed back, and where it begins

module _ (first second : List ℕ) (one two : ℕ × ℕ) where
  pub no-first : (length first ≡ packet_length → ⊥) → ([] ≡ better_of first second) × (one ≡ better_at first second one two)
  unfolding better_of better_at
  no-first h = (rw (ne_eqb _ _ h), rw (ne_eqb _ _ h))

  module _ (first-long : length first ≡ packet_length) where
    pub no_second : (length second ≡ packet_length → ⊥) → ([] ≡ better_of first second) × (one ≡ better_at first second one two)
    unfolding better_of better_at
    no_second h = (rw (eq-eqb _ _ first-long, ne_eqb _ _ h), rw (eq-eqb _ _ first-long, ne_eqb _ _ h))

    module _ (second-long : length second ≡ packet_length) where
      pub the_second :
          broken_in judged_bytes second < broken_in judged_bytes first
          → (drop address_length second ≡ better_of first second) × (behind two address_length ≡ better_at first second one two)
      unfolding better_of better_at
      the_second h =
          (rw (eq-eqb _ _ first-long, eq-eqb _ _ second-long, lt-ltb _ _ h), rw (eq-eqb _ _ first-long, eq-eqb _ _ second-long, lt-ltb _ _ h))

      pub the-first :
          broken_in judged_bytes first ≤ broken_in judged_bytes second
          → (drop address_length first ≡ better_of first second) × (behind one address_length ≡ better_at first second one two)
      unfolding better_of better_at
      the-first h =
          (rw (eq-eqb _ _ first-long, eq-eqb _ _ second-long, le-ltb _ _ h), rw (eq-eqb _ _ first-long, eq-eqb _ _ second-long, le-ltb _ _ h))
