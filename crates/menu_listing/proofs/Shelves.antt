-- The search on a shelf: what is copied of a form is what is read of it. Assumes nothing.
use mathlib.Core.Path.{◌≡◌, ◌∙◌, refl, sym, ap}
use mathlib.Core.Bool.{true, false}
use mathlib.Core.List.{List, [], ◌∷◌, ◌++◌}
use Prim.Native.Nat.{ℕ, zero, suc, ◌+◌, ◌-◌, ◌≤◌}
use native.Mathlib.Omega.{arith}
use borrow.Author.Tests.{eq-eqb, ne_eqb}
use lib.ListN.{length, take, drop, replicate, length-take, length-replicate, replicate-append-replicate}
use lib.Seq.{sets, take_at}
use Rattle.laws.proofs.Lists.{sets-front}
use Rattle.menu_forms.specs.Form.{menu_in}
use Rattle.shelf.specs.Shelf.{place_of}
use Rattle.menu_listing.specs.Kept.{form_most, form_at, kept_menus}
use Rattle.menu_listing.specs.Internal.{Held, none, first}

zeros-front : (k n : ℕ) → k ≤ n → replicate {A = ℕ} k 0 ≡ take k (replicate n 0)
zeros-front k n h =
    let e : k + (n - k) ≡ n = omega arith in
    sym
    (ap (λ (m : ℕ). take k (replicate m 0)) (sym e)
    ∙ (rw (← replicate-append-replicate) (take_at (replicate k 0) (replicate (n - k) 0) k (length-replicate k 0))))

-- zeros with a list in front of them, and a list with zeros behind it
padded : (k n : ℕ) (g : List ℕ) → k ≤ n → take k g ++ drop (length (take k g)) (replicate k 0) ≡ take k (g ++ replicate n 0)
padded zero n g h = refl
padded (suc k) n [] h = zeros-front (suc k) n h
padded (suc k) n (x ∷ g) h = ap (λ (l : List ℕ). x ∷ l) (padded k n g (omega arith))

copied : (k : ℕ) (g : List ℕ) → sets (replicate k 0) 0 (take k g) ≡ take k (g ++ replicate k 0)
copied k g =
    sets-front (replicate k 0) (take k g) (omega (arith, length-take k g, length-replicate {A = ℕ} k 0)) ∙ padded k k g (omega arith)

module _ (number place : ℕ) (heads shelf f : List ℕ) (e : place ≡ place_of number heads shelf) where
  pub none_kept : place ≡ 0 → Held (kept_menus heads shelf number) f false
  unfolding kept_menus
  none_kept z = rw (eq-eqb (place_of number heads shelf) 0 (sym e ∙ z)) none

  pub one_kept : (place ≡ 0 → ⊥) → f ≡ sets (replicate form_most 0) 0 (take form_most (drop place shelf)) → Held (kept_menus heads shelf number) f true
  unfolding kept_menus form_at
  one_kept n c =
      rw (ne_eqb (place_of number heads shelf) 0 (λ (z : place_of number heads shelf ≡ 0). n (e ∙ z)))
      (first (ap menu_in (c ∙ copied form_most (drop place shelf) ∙ ap (λ (p : ℕ). take form_most (drop p shelf ++ replicate form_most 0)) e)))
