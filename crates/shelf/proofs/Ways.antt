-- The way back along a row: what each entry makes of it, and what it depends on. Assumes nothing.
use mathlib.Core.Path.{◌≡◌, ◌∙◌, refl, sym, ap}
use mathlib.Core.Bool.{Bool, true, false}
use mathlib.Core.List.{List}
use Prim.Native.Nat.{ℕ, zero, suc, ◌+◌, ◌-◌, ◌≤◌, ◌<◌}
use native.Mathlib.Omega.{arith}
use borrow.Author.Tests.{ltb-true, ltb-false, leb-true, eqb-true, eqb-false, lt-ltb, le-ltb, le-leb, eq-eqb, ne_eqb}
use lib.Dec.{eqb, leb, ltb}
use lib.ListN.{length, get_or}
use lib.Seq.{get_or-drop}
use Rattle.laws.specs.Pick.{both}
use Rattle.laws.proofs.Countdown.{at_more}
use Rattle.laws.proofs.Tests.{both_true, both-holds}
use Rattle.shelf.specs.Shelf.{three, number_in, standing, before, form_place, number_at, way_back}

-- ---- an entry within the shelf

module _ (p : ℕ) (s : List ℕ) where
  pub stands : 1 ≤ p → p + 6 ≤ length s → standing p s ≡ true
  stands h k = both-holds (leb 1 p) (leb (p + 6) (length s)) (le-leb 1 p h) (le-leb (p + 6) (length s) k)

  pub stood : standing p s ≡ true → (1 ≤ p) × (p + 6 ≤ length s)
  stood e =
      let b = both_true (leb 1 p) (leb (p + 6) (length s)) e in (leb-true 1 p b.0, leb-true (p + 6) (length s) b.1)

-- ---- one entry

module _ (n number p : ℕ) (s : List ℕ) where
  pub way-none : standing p s ≡ false → way_back n number p s ≡ 0
  unfolding way_back
  way-none e = go n
    where
      go : (m : ℕ) → way_back m number p s ≡ 0
      go zero = refl
      go (suc m) = rw (e, way_back)

  pub way-here : standing p s ≡ true → number_at p s ≡ number → way_back (suc n) number p s ≡ form_place p
  unfolding way_back
  way-here e f = rw (e, eq-eqb (number_at p s) number f, way_back)

  pub way-stops : standing p s ≡ true → (number_at p s ≡ number → ⊥) → p ≤ before p s → way_back (suc n) number p s ≡ 0
  unfolding way_back
  way-stops e f h = rw (e, ne_eqb (number_at p s) number f, le-ltb (before p s) p h, way_back)

  pub way_on :
      standing p s ≡ true → (number_at p s ≡ number → ⊥) → before p s < p
      → way_back (suc n) number p s ≡ way_back n number (before p s) s
  unfolding way_back
  way_on e f h = rw (e, ne_eqb (number_at p s) number f, lt-ltb (before p s) p h, way_back)

-- none is named
pub way_zero : (n number : ℕ) (s : List ℕ) → way_back n number 0 s ≡ 0
way_zero n number s = way-none n number 0 s refl

-- the way from p has at most p entries, so that more allowed entries change nothing
pub way_enough : (m n number p : ℕ) (s : List ℕ) → p ≤ m → p ≤ n → way_back m number p s ≡ way_back n number p s
way_enough zero n number p s h k =
    let e : p ≡ 0 = omega arith in rw e (way_zero 0 number s ∙ sym (way_zero n number s))
way_enough (suc m) zero number p s h k =
    let e : p ≡ 0 = omega arith in rw e (way_zero (suc m) number s ∙ sym (way_zero 0 number s))
way_enough (suc m) (suc n) number p s h k = go (standing p s) refl (eqb (number_at p s) number) refl (ltb (before p s) p) refl (λ q. way_enough m n number q s)
  where
    go :
        (a : Bool) → standing p s ≡ a → (b : Bool) → eqb (number_at p s) number ≡ b → (c : Bool) → ltb (before p s) p ≡ c
        → ((q : ℕ) → q ≤ m → q ≤ n → way_back m number q s ≡ way_back n number q s)
        → way_back (suc m) number p s ≡ way_back (suc n) number p s
    go false e b f c g ih = way-none (suc m) number p s e ∙ sym (way-none (suc n) number p s e)
    go true e true f c g ih =
        let i = eqb-true (number_at p s) number f in way-here m number p s e i ∙ sym (way-here n number p s e i)
    go true e false f false g ih =
        let d = eqb-false (number_at p s) number f in
        let l = ltb-false (before p s) p g in
        way-stops m number p s e d l ∙ sym (way-stops n number p s e d l)
    go true e false f true g ih =
        let d = eqb-false (number_at p s) number f in
        let l = ltb-true (before p s) p g in
        way_on m number p s e d l
        ∙ ih (before p s) (omega arith) (omega arith)
        ∙ sym (way_on n number p s e d l)

-- ---- the way as `find` goes it: from p, with p entries allowed

module _ (number p : ℕ) (s : List ℕ) (e : standing p s ≡ true) where
  one_more : way_back p number p s ≡ way_back (suc (p - 1)) number p s
  one_more = let h = (stood p s e).0 in at_more (λ (n : ℕ). way_back n number p s) p h

  pub found_here : number_at p s ≡ number → form_place p ≡ way_back p number p s
  found_here f = sym (one_more ∙ way-here (p - 1) number p s e f)

  pub found_none : (number_at p s ≡ number → ⊥) → p ≤ before p s → 0 ≡ way_back p number p s
  found_none f h = sym (one_more ∙ way-stops (p - 1) number p s e f h)

  pub found-on : (number_at p s ≡ number → ⊥) → before p s < p → way_back (before p s) number (before p s) s ≡ way_back p number p s
  found-on f h =
      let k = (stood p s e).0 in
      way_enough (before p s) (p - 1) number (before p s) s (omega arith) (omega arith)
      ∙ sym (one_more ∙ way_on (p - 1) number p s e f h)

-- ---- two shelves of one length with the same first bytes: a way that begins among them is the same in both

module _ (s t : List ℕ) (used : ℕ) (long : length t ≡ length s) (same : (i : ℕ) → i < used → get_or t i 0 ≡ get_or s i 0) where
  same-before : (p : ℕ) → 1 ≤ p → p + 6 ≤ used → before p t ≡ before p s
  unfolding three
  same-before p h k = rw (same (p - 1) (omega arith), same (p - 1 + 1) (omega arith), same (p - 1 + 2) (omega arith))

  same_number : (p : ℕ) → p + 6 ≤ used → number_at p t ≡ number_at p s
  unfolding number_in
  same_number p k = simp get_or-drop (rw (same (p + 2 + 2) (omega arith), same (p + 2 + 3) (omega arith)))

  pub way_same : (n number p : ℕ) → p ≤ used - 6 → way_back n number p t ≡ way_back n number p s
  unfolding way_back
  way_same zero number p h = refl
  way_same (suc n) number p h = go (standing p s) refl (eqb (number_at p s) number) refl (ltb (before p s) p) refl (way_same n number)
    where
      stand : {b : Bool} → standing p s ≡ b → standing p t ≡ b
      stand e = ap (λ (l : ℕ). both (leb 1 p) (leb (p + 6) l)) long ∙ e

      go :
          (a : Bool) → standing p s ≡ a → (b : Bool) → eqb (number_at p s) number ≡ b → (c : Bool) → ltb (before p s) p ≡ c
          → ((q : ℕ) → q ≤ used - 6 → way_back n number q t ≡ way_back n number q s)
          → way_back (suc n) number p t ≡ way_back (suc n) number p s
      go false e b f c g ih = way-none (suc n) number p t (stand e) ∙ sym (way-none (suc n) number p s e)
      go true e true f c g ih =
          let w = stood p s e in
          let i = eqb-true (number_at p s) number f in
          way-here n number p t (stand e) (same_number p (omega arith) ∙ i) ∙ sym (way-here n number p s e i)
      go true e false f false g ih =
          let w = stood p s e in
          let d = eqb-false (number_at p s) number f in
          let l = ltb-false (before p s) p g in
          let m = same_number p (omega arith) in
          way-stops n number p t (stand e) (λ i. d (sym m ∙ i)) (omega (arith, same-before p w.0 (omega arith)))
          ∙ sym (way-stops n number p s e d l)
      go true e false f true g ih =
          let w = stood p s e in
          let d = eqb-false (number_at p s) number f in
          let l = ltb-true (before p s) p g in
          let m = same_number p (omega arith) in
          let b = same-before p w.0 (omega arith) in
          way_on n number p t (stand e) (λ i. d (sym m ∙ i)) (omega (arith, b))
          ∙ ap (λ (q : ℕ). way_back n number q t) b
          ∙ ih (before p s) (omega arith)
          ∙ sym (way_on n number p s e d l)
