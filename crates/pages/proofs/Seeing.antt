-- Bytes that decode. Assumes nothing.
use mathlib.Core.Path.{◌≡◌, ◌∙◌, refl, sym}
use mathlib.Core.Bool.{Bool, true, false}
use mathlib.Core.List.{List, [], ◌∷◌}
use Prim.Native.Nat.{ℕ, zero, suc, ◌-◌, ◌≤◌, ◌<◌}
use native.Mathlib.Numerals.{one-add}
use native.Mathlib.Omega.{arith}
use lib.ListN.{length, get_or, take, drop, length-drop}
use lib.Seq.{get_or-drop}
use lib.Dec.{ltb}
use borrow.Author.Tests.{ltb-true, eq-eqb}
use Rattle.std.specs.Prelude.{◌&&◌}
use Rattle.std.specs.List.{list_all}
use Rattle.laws.specs.Pick.{both}
use Rattle.octet.specs.Decoding.{nib, undecodable}
use Rattle.packet.specs.Address.{decodes}
use Rattle.pages.specs.Internal.{legible}
use Rattle.laws.proofs.Tests.{both_first, both-second}

-- ---- bytes that decode

-- the first k bytes of l, as the library asks each of them
pub decodes-all : (k : ℕ) (l : List ℕ) → k ≤ length l → list_all (λ b. ltb (nib b) undecodable) (take k l) ≡ decodes k l
unfolding decodes
decodes-all zero l h = refl
decodes-all (suc k) [] h = absurd (omega arith)
decodes-all (suc k) (b ∷ l) h = go (ltb (nib b) undecodable) (decodes-all k l (omega arith))
  where
    go : (t : Bool) {r s : Bool} → r ≡ s → (t && r) ≡ both t s
    go true e = e
    go false e = refl

-- the six bytes after the address, as a part of a packet
pub legible_by_all :
    (p : List ℕ) → length p ≡ 42 → list_all (λ b. ltb (nib b) undecodable) (take (8 - 2) (drop 2 p)) ≡ legible p
legible_by_all p h = rw (eq-eqb (length p) 42 h) (decodes-all 6 (drop 2 p) (rw length-drop (omega arith)))

-- each of k bytes that decode is a nibble
pub decodes-at : (k i : ℕ) (l : List ℕ) → true ≡ decodes k l → i < k → nib (get_or l i 0) < undecodable
unfolding decodes
decodes-at zero i l e h = absurd (omega arith)
decodes-at (suc k) zero l e h = ltb-true _ undecodable (both_first _ _ (sym e))
decodes-at (suc k) (suc i) l e h =
    let p : get_or (drop 1 l) i 0 ≡ get_or l (suc i) 0 = get_or-drop 1 l i 0 ∙ rw one-add in
    rw (← p) (decodes-at k i (drop 1 l) (sym (both-second (ltb (nib (get_or l 0 0)) undecodable) (decodes k (drop 1 l)) (sym e))) (omega arith))
