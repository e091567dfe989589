-- Text that may stop past the room: pieces one after the other. Assumes nothing.
use mathlib.Core.Path.{◌≡◌, refl}
use mathlib.Core.Bool.{Bool, true, false}
use mathlib.Core.Logic.{◌⊎◌, inl, inr}
use mathlib.Core.List.{List, ◌++◌}
use Prim.Native.Nat.{ℕ, ◌+◌, ◌≤◌, ◌<◌}
use native.Mathlib.Omega.{arith}
use borrow.Author.Tests.{leb-true, leb-false}
use lib.Dec.{leb}
use lib.ListN.{length, length-append}
use Rattle.text_lines.specs.Put.{Put}
use Rattle.text_lines.proofs.Printed.{then}
use Rattle.menu_listing.specs.Internal.{Penned}

le_or_lt : (a b : ℕ) → (a ≤ b) ⊎ (b < a)
le_or_lt a b = go (leb a b) refl
  where
    go : (t : Bool) → leb a b ≡ t → (a ≤ b) ⊎ (b < a)
    go true e = inl (leb-true a b e)
    go false e = inr (leb-false a b e)

-- what is put whole
pub penned : {room q q' : ℕ} {out xs out' : List ℕ} → Put out q xs out' q' → Penned room out q xs out' q'
penned p = record { done = λ h. p; past = λ h. omega (arith, p.moved) }

-- past the room nothing more is put, whatever the text
pub stopped : {room q : ℕ} (out xs : List ℕ) → room < q → Penned room out q xs out q
stopped out xs h = record { done = λ g. absurd (omega arith); past = λ g. h }

-- the same text, said otherwise
pub penned_as : {room q q' : ℕ} {out xs ys out' : List ℕ} → xs ≡ ys → Penned room out q xs out' q' → Penned room out q ys out' q'
penned_as e p = rw (← e) p

-- one piece after the other
pub pen_on :
    {room q q₁ q₂ : ℕ} {out out₁ out₂ xs ys : List ℕ} → Penned room out q xs out₁ q₁ → Penned room out₁ q₁ ys out₂ q₂
    → Penned room out q (xs ++ ys) out₂ q₂
pen_on {room} {q} {q₁} {q₂} {out} {out₁} {out₂} {xs} {ys} a b =
    let n = length-append xs ys in
    record {
      done = λ h. let p = a.done (omega arith) in then p (b.done (omega (arith, p.moved)));
      past = λ h. go (le_or_lt (q + length xs) room) h;
    }
  where
    go : (q + length xs ≤ room) ⊎ (room < q + length xs) → room < q + length (xs ++ ys) → room < q₂
    go (inl l) h = let p = a.done l in b.past (omega (arith, p.moved, length-append xs ys))
    go (inr l) h = b.past (omega (arith, a.past l))

-- what is still to be put from here makes what was to be put from the start
abbrev pub Rest : ℕ → List ℕ → ℕ → List ℕ → List ℕ → ℕ → List ℕ → Type 0
Rest room out p rest out₀ q all =
    (out' : List ℕ) (q' : ℕ) → Penned room out p rest out' q' → Penned room out₀ q all out' q'

-- ---- measured from the front

module _ {room r : ℕ} {out xs out' : List ℕ} (p : Penned room out 0 xs out' r) where
  -- past the room: the text is longer
  pub too_long : room < r → room < length xs
  too_long h = go (le_or_lt (length xs) room)
    where
      go : (length xs ≤ room) ⊎ (room < length xs) → room < length xs
      go (inl l) = let w = p.done (omega arith) in absurd (omega (arith, w.moved))
      go (inr l) = l

  -- within it: the text fits
  pub fits_in : r ≤ room → length xs ≤ room
  fits_in h = go (le_or_lt (length xs) room)
    where
      go : (length xs ≤ room) ⊎ (room < length xs) → length xs ≤ room
      go (inl l) = l
      go (inr l) = absurd (omega (arith, p.past (omega arith)))

  pub put_whole : length xs ≤ room → Put out 0 xs out' r
  put_whole h = p.done (omega arith)
