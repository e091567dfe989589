-- The search for a packet's beginning, place by place; and that it finds the first. Assumes nothing.
use mathlib.Core.Path.{◌≡◌, refl}
use mathlib.Core.Bool.{Bool, true, false}
use mathlib.Core.Logic.{⊎_elim}
use mathlib.Core.List.{List}
use Prim.Native.Nat.{ℕ, zero, suc, ◌+◌, ◌<◌, ◌≤◌}
use native.Mathlib.Nat.{le_refl, eq-or-lt_of_le}
use native.Mathlib.Numerals.{add-one}
use native.Mathlib.Omega.{arith}
use lib.Dec.{ltb}
use lib.ListN.{length, drop, drop_of_length-le}
use lib.Seq.{drop-cons}
use borrow.Author.Tests.{ltb-true, ltb-false}
use Rattle.std.specs.declared.option.Option.{Option}
use Rattle.std.specs.declared.option.Option.TheVariants.{None, Some}
use Rattle.pes.specs.Finding.{begins_packet, first_in, Tells}

-- ---- one place

module _ (s : List ℕ) (at : ℕ) where
  pub first-here : at < length s → begins_packet (drop at s) ≡ true → first_in (drop at s) at ≡ Some at
  unfolding first_in
  first-here h e = let d = drop-cons s at 0 h in rw d (rw (rw d at e))

  pub first-later : at < length s → begins_packet (drop at s) ≡ false → first_in (drop at s) at ≡ first_in (drop (at + 1) s) (at + 1)
  unfolding first_in
  first-later h e = let d = drop-cons s at 0 h in rw (add-one, d) (rw (rw d at e))

  pub first-none : length s ≤ at → first_in (drop at s) at ≡ None
  unfolding first_in
  first-none h = rw (drop_of_length-le s h)

-- ---- it is the first

-- no packet begins at the first place, nor at a later one
none_from :
    (s : List ℕ) (from k : ℕ) → begins_packet (drop from s) ≡ false → (from + 1 ≤ k → begins_packet (drop k s) ≡ false) → from ≤ k
    → begins_packet (drop k s) ≡ false
none_from s from k e f h =
    ⊎_elim (λ (q : from ≡ k). rw (← q) e) (λ (q : from < k). f (omega arith)) (eq-or-lt_of_le h)

tells_on : (s : List ℕ) (from : ℕ) (r : Option ℕ) → begins_packet (drop from s) ≡ false → Tells s (from + 1) r → Tells s from r
tells_on s from (Some at) e t =
    record { ahead = omega (arith, t.ahead); here = t.here; none = λ k h l. none_from s from k e (λ i. t.none k i l) h }
tells_on s from None e t = λ k h. none_from s from k e (t k) h

tells_end : (s : List ℕ) (from : ℕ) → length s ≤ from → Tells s from (first_in (drop from s) from)
tells_end s from h = rw (first-none s from h) (λ k l. let q : length s ≤ k = omega arith in rw (drop_of_length-le s q))

pub find_tells : (n : ℕ) (s : List ℕ) (from : ℕ) → length s ≤ from + n → Tells s from (first_in (drop from s) from)
find_tells zero s from h = tells_end s from (omega arith)
find_tells (suc n) s from h = go (ltb from (length s)) refl (begins_packet (drop from s)) refl (find_tells n s (from + 1) (omega arith))
  where
    go :
        (w : Bool) → ltb from (length s) ≡ w → (b : Bool) → begins_packet (drop from s) ≡ b
        → Tells s (from + 1) (first_in (drop (from + 1) s) (from + 1)) → Tells s from (first_in (drop from s) from)
    go false e b d t = tells_end s from (ltb-false from (length s) e)
    go true e true d t =
        rw (first-here s from (ltb-true from (length s) e) d)
        (record { ahead = le_refl from; here = d; none = λ k l m. absurd (omega arith) })
    go true e false d t =
        rw (first-later s from (ltb-true from (length s) e) d) (tells_on s from (first_in (drop (from + 1) s) (from + 1)) d t)
