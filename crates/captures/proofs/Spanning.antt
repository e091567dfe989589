-- Where a record stands, by the tests that tell, and that a walk from record to record goes on and stays within the space. Assumes nothing.
use mathlib.Core.Path.{◌≡◌, ◌∙◌, refl, sym}
use mathlib.Core.Bool.{Bool, true, false}
use mathlib.Core.List.{List}
use Prim.Native.Nat.{ℕ, ◌+◌, ◌<◌, ◌≤◌}
use native.Mathlib.Omega.{arith}
use lib.Dec.{eqb}
use lib.ListN.{length, get_or}
use borrow.Author.Tests.{le-leb, lt-leb, eqb-true, eqb-false}
use Rattle.laws.specs.Pick.{pick}
use Rattle.blocks.specs.Place.{after_at}
use Rattle.blocks.proofs.Placing.{found-end, after-within}
use Rattle.packet.specs.declared.two.Streams.{Streams}
use Rattle.captures.specs.declared.spans.Span.{Span}
use Rattle.captures.specs.Spans.{is_one, span_of, span_at}

module _ (g : Streams) (l : List ℕ) (at : ℕ) {t : Bool} (e : t ≡ is_one g) where
  pub span-one : {next : ℕ} → t ≡ true → next ≡ after_at l at → span_of g.first at next ≡ span_at g l at
  unfolding span_at
  span-one h f = let q : is_one g ≡ true = sym e ∙ h in rw (q, f)

  pub span_none : t ≡ false → length l ≤ at → span_of g.first at at ≡ span_at g l at
  unfolding span_at
  span_none h k = let q : is_one g ≡ false = sym e ∙ h in rw (q, le-leb _ _ k)

  pub span-next : {next : ℕ} → t ≡ false → at < length l → next ≡ after_at l (at + 1) → span_of (get_or l at 0) (at + 1) next ≡ span_at g l at
  unfolding span_at
  span-next h k f = let q : is_one g ≡ false = sym e ∙ h in rw (q, lt-leb _ _ k, f)

-- ---- a walk along the records goes on, and stays within the space

after-end : (l : List ℕ) (p : ℕ) → p ≡ length l → after_at l p ≡ length l
unfolding after_at
after-end l p e = rw (found-end l p e)

-- the record stands further on, and not past the end
abbrev pub Further : List ℕ → ℕ → Span → Type 0
Further l at s = (at ≤ s.from) × (s.from ≤ s.next) × (s.next ≤ length l) × (at < s.next)

pub span_within : (g : Streams) (l : List ℕ) (at : ℕ) → at < length l → Further l at (span_at g l at)
unfolding span_at
span_within g l at h = rw (lt-leb _ _ h) (go (is_one g))
  where
    last : (t : Bool) → eqb (at + 1) (length l) ≡ t → Further l at (span_of (get_or l at 0) (at + 1) (after_at l (at + 1)))
    last true e =
        let f : at + 1 ≡ length l = eqb-true _ _ e in
        let n : after_at l (at + 1) ≡ length l = after-end l (at + 1) f in
        (omega arith, omega (arith, n, f), omega (arith, n), omega (arith, n, h))
    last false e =
        let f : at + 1 ≡ length l → ⊥ = eqb-false _ _ e in
        let w = after-within l (at + 1) (omega (arith, h, f)) in
        (omega arith, omega (arith, w.0), w.1, omega (arith, w.0))

    go : (t : Bool) → Further l at (pick t (span_of g.first at (after_at l at)) (span_of (get_or l at 0) (at + 1) (after_at l (at + 1))))
    go true = let w = after-within l at h in (omega arith, omega (arith, w.0), w.1, w.0)
    go false = last (eqb (at + 1) (length l)) refl
