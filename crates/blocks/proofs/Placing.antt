-- What stands at a place, by the tests that tell: the number of bytes left, and the 16 bits there. Assumes nothing.
use mathlib.Core.Path.{◌≡◌, ◌∙◌, refl, sym, ap₂}
use mathlib.Core.Bool.{Bool, true, false}
use mathlib.Core.List.{List}
use Prim.Native.Nat.{ℕ, ◌+◌, ◌-◌, ◌*◌, ◌/◌, ◌<◌, ◌≤◌}
use native.Mathlib.Nat.{add-zero, add_assoc}
use native.Mathlib.Omega.{arith}
use lib.Dec.{leb}
use lib.ListN.{length, get_or, drop, length-drop}
use lib.Seq.{get_or-drop}
use borrow.Author.Tests.{eq-eqb, ne_eqb, le-leb, lt-leb}
use Rattle.laws.proofs.Tests.{both_false}
use Rattle.blocks.specs.declared.Found.TheVariants.{End, Record, Broken}
use Rattle.blocks.specs.Block.{head_length, head_of, record_length, begins}
use Rattle.blocks.specs.Place.{found_at, after_found, after_at}
use Rattle.blocks.proofs.Walking.{begins-fits, begins_not}

pub found-end : (l : List ℕ) (p : ℕ) → p ≡ length l → found_at l p ≡ End
unfolding found_at
found-end l p e = rw (eq-eqb p (length l) e)

pub found-broken : (l : List ℕ) (p : ℕ) → (p ≡ length l → ⊥) → begins (drop p l) ≡ false → found_at l p ≡ Broken
unfolding found_at
found-broken l p n e = rw (ne_eqb p (length l) n, e)

pub found_record :
    (l : List ℕ) (p : ℕ) → (p ≡ length l → ⊥) → begins (drop p l) ≡ true
    → found_at l p ≡ Record (head_of (drop p l)) (p + head_length) (p + record_length (drop p l))
unfolding found_at
found_record l p n e = rw (ne_eqb p (length l) n, e)

-- the 16 bits at p
abbrev head_at : List ℕ → ℕ → ℕ
head_at l p = get_or l p 0 + 256 * get_or l (p + 1) 0

head_at_lem : (l : List ℕ) (p : ℕ) → head_of (drop p l) ≡ head_at l p
head_at_lem l p = ap₂ (λ (a b : ℕ). a + 256 * b) (get_or-drop p l 0 0 ∙ rw add-zero) (get_or-drop p l 1 0)

over : (l : List ℕ) → length l < record_length l → begins l ≡ false
over l h = rw (lt-leb (record_length l) (length l) h) (both_false (leb head_length (length l)))

-- ---- the five ends of a look at p

pub at-end : (l : List ℕ) (p : ℕ) → p ≡ length l → End ≡ found_at l p
at-end l p e = sym (found-end l p e)

pub past : (l : List ℕ) (p : ℕ) → length l < p → Broken ≡ found_at l p
past l p h = sym (found-broken l p (λ e. omega arith) (begins_not (drop p l) (omega (arith, length-drop p l))))

pub left-short : (l : List ℕ) (p : ℕ) → (p ≡ length l → ⊥) → length l - p < head_length → Broken ≡ found_at l p
left-short l p n h = sym (found-broken l p n (begins_not (drop p l) (omega (arith, length-drop p l))))

pub left_over :
    (l : List ℕ) (p : ℕ) → (p ≡ length l → ⊥) → length l - p - head_length < head_at l p / 32 → Broken ≡ found_at l p
left_over l p n h = sym (found-broken l p n (over (drop p l) (omega (arith, length-drop p l, head_at_lem l p))))

pub left-whole :
    (l : List ℕ) (p : ℕ) → (p ≡ length l → ⊥) → head_length ≤ length l - p → head_at l p / 32 ≤ length l - p - head_length
    → Record (head_at l p) (p + head_length) (p + head_length + head_at l p / 32) ≡ found_at l p
left-whole l p n h g =
    let e : head_of (drop p l) ≡ head_at l p = head_at_lem l p in
    let b : begins (drop p l) ≡ true =
    rw (le-leb head_length (length (drop p l)) (omega (arith, length-drop p l)))
    (le-leb (record_length (drop p l)) (length (drop p l)) (omega (arith, length-drop p l))) in
    sym (found_record l p n b ∙ rw (e, ← add_assoc p head_length (head_at l p / 32)))

-- ---- a walk along a list of anything goes on, and stays within it

pub after-within : (l : List ℕ) (p : ℕ) → p < length l → (p < after_at l p) × (after_at l p ≤ length l)
unfolding after_at
after-within l p h = go (begins (drop p l)) refl
  where
    off : p ≡ length l → ⊥
    off e = omega arith

    go : (t : Bool) → begins (drop p l) ≡ t → (p < after_found (length l) (found_at l p)) × (after_found (length l) (found_at l p) ≤ length l)
    go true e = rw (found_record l p off e) (omega arith, omega (arith, begins-fits (drop p l) e, length-drop p l))
    go false e = rw (found-broken l p off e) (omega arith, omega arith)
