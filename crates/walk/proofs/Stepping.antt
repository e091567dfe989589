-- Filler passed by, one byte after the other, and what stands ahead then. Assumes nothing.
use mathlib.Core.Path.{◌≡◌, ◌∙◌, refl}
use mathlib.Core.Bool.{Bool, true, false}
use mathlib.Core.List.{List, [], ◌∷◌}
use Prim.Native.Nat.{ℕ, suc, ◌+◌, ◌≤◌, ◌<◌}
use native.Mathlib.Numerals.{add-one}
use native.Mathlib.Omega.{arith}
use lib.ListN.{length, get_or, drop, drop_of_length-le, length-drop}
use lib.Seq.{drop-cons, drop-drop, get_or-drop}
use lib.Dec.{eqb}
use borrow.Author.Tests.{eq-eqb, ne_eqb, eqb-false}
use Rattle.laws.specs.Pick.{pick}
use Rattle.octet.specs.Decoding.{nib}
use Rattle.octet.specs.Hearing.{harm}
use Rattle.walk.specs.declared.Ahead.{Ahead}
use Rattle.walk.specs.declared.Ahead.TheVariants.{Nothing, Broken, Cut, Whole}
use Rattle.walk.specs.Mode.{filler}
use Rattle.walk.specs.Places.{next_of, nothing, fillers, heads, found}

-- ---- filler

pub filler-on : (l : List ℕ) (i : ℕ) → i < length l → nib (get_or l i 0) ≡ 3 → i + 1 + fillers (drop (i + 1) l) ≡ i + fillers (drop i l)
unfolding fillers
filler-on l i h e = rw (drop-cons l i 0, eq-eqb _ _ e, add-one) (omega arith)

pub filler_stops : (l : List ℕ) (i : ℕ) → i < length l → (nib (get_or l i 0) ≡ 3 → ⊥) → i ≡ i + fillers (drop i l)
unfolding fillers
filler_stops l i h e = rw (drop-cons l i 0, ne_eqb _ _ e) (omega arith)

pub filler-ends : (l : List ℕ) (i : ℕ) → length l ≤ i → i ≡ i + fillers (drop i l)
unfolding fillers
filler-ends l i h = rw drop_of_length-le (omega arith)

-- ---- what stands ahead: filler is passed by, then a start or another nibble stands there, or the end

pub found-past : (l : List ℕ) → found l ≡ found (drop (fillers l) l)
unfolding found fillers
found-past [] = refl
found-past (b ∷ bs) = go (filler b) refl (found-past bs)
  where
    go :
        (t : Bool) → filler b ≡ t → found bs ≡ found (drop (fillers bs) bs)
        → pick t (found bs) (pick (eqb (nib b) 12) (heads 4 0 (harm b) bs) nothing) ≡ found (drop (pick t (suc (fillers bs)) 0) (b ∷ bs))
    go true e r = r
    go false e r = rw e

pub found_none : (l : List ℕ) (i : ℕ) → length l ≤ i → found (drop i l) ≡ nothing
unfolding found
found_none l i h = rw drop_of_length-le

pub found_stray :
    (l : List ℕ) (i : ℕ) → i < length l → (nib (get_or l i 0) ≡ 3 → ⊥) → (nib (get_or l i 0) ≡ 12 → ⊥) → found (drop i l) ≡ nothing
unfolding found
found_stray l i h e f = rw (drop-cons l i 0, ne_eqb _ _ e, ne_eqb _ _ f)

pub found-start :
    (l : List ℕ) (i : ℕ) → i < length l → nib (get_or l i 0) ≡ 12 → found (drop i l) ≡ heads 4 0 (harm (get_or l i 0)) (drop (i + 1) l)
unfolding found
found-start l i h f =
    let e : nib (get_or l i 0) ≡ 3 → ⊥ = λ e. omega arith in
    rw (drop-cons l i 0, ne_eqb _ _ e, eq-eqb _ _ f, add-one)

-- no filler stands past the filler
pub past-filler : (l : List ℕ) → fillers l < length l → nib (get_or l (fillers l) 0) ≡ 3 → ⊥
unfolding fillers
past-filler [] h e = omega arith
past-filler (b ∷ bs) h e = go (filler b) refl (past-filler bs) h e
  where
    go :
        (t : Bool) → filler b ≡ t → (fillers bs < length bs → nib (get_or bs (fillers bs) 0) ≡ 3 → ⊥)
        → pick t (suc (fillers bs)) 0 < suc (length bs) → nib (get_or (b ∷ bs) (pick t (suc (fillers bs)) 0) 0) ≡ 3 → ⊥
    go true k r h e = r (omega arith) e
    go false k r h e = eqb-false _ _ k e

pub next_later : (r : Ahead) (x y : ℕ) → next_of r x ≡ x → y ≤ x → y ≤ next_of r y
next_later Nothing x y e h = omega arith
next_later Broken x y e h = omega arith
next_later (Cut g v part) x y e h = omega arith
next_later (Whole h part n) x y e k = omega arith

-- the place past a whole header lies so far on, and within the bytes
pub next-from : (r : Ahead) {h part n : ℕ} (x : ℕ) → r ≡ Whole h part n → x ≤ next_of r x → x ≤ n
next-from r x e l = rw e at l

pub next-within : (r : Ahead) {h part n : ℕ} {y : ℕ} → r ≡ Whole h part n → next_of r 0 ≤ y → n ≤ y
next-within r e l = rw e at l

-- ---- the same from the place that filler leads to

module _ (s : List ℕ) (from at : ℕ) (p : at ≡ from + fillers (drop from s)) where
  pub found_at : found (drop from s) ≡ found (drop at s)
  found_at = found-past (drop from s) ∙ rw (p, drop-drop)

  pub not-filler : from ≤ length s → at < length s → nib (get_or s at 0) ≡ 3 → ⊥
  not-filler f h e =
      past-filler (drop from s) (simp length-drop (omega arith)) (rw (get_or-drop, ← p) e)
