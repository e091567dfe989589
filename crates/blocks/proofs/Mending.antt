-- How a pass along a record counts the bytes that were mended, run by run and byte by byte, and how a pass finds that there are none.
-- Assumes nothing.
use mathlib.Core.Path.{◌≡◌, ◌∙◌, refl, sym, ap}
use mathlib.Core.Bool.{Bool, true, false}
use mathlib.Core.List.{List, [], ◌∷◌, ◌++◌}
use Prim.Native.Nat.{ℕ, suc, ◌+◌, ◌≤◌, ◌<◌}
use native.Mathlib.Nat.{zero-add}
use native.Mathlib.Numerals.{add-one}
use native.Mathlib.Omega.{arith}
use borrow.Author.Tests.{ne_eqb}
use lib.Bits.{bit_or}
use lib.Dec.{eqb}
use lib.ListN.{length, get_or, drop, drop_of_length-le}
use lib.Seq.{drop-cons}
use Rattle.laws.specs.Pick.{pick, both}
use Rattle.laws.proofs.Tests.{both_right, mixed_zero}
use Rattle.octet.specs.Hearing.{harm, harms}
use Rattle.octet.proofs.Hearing.{harms-append}

-- ---- the count

-- the harms of what is left are those of a run and of what is left after it
pub harms-run : {s : List ℕ} (run rest : List ℕ) → s ≡ run ++ rest → harms run + harms rest ≡ harms s
harms-run run rest e = sym (ap harms e ∙ harms-append run rest)

pub harms_none : (s : List ℕ) → length s ≡ 0 → harms s ≡ 0
unfolding harms
harms_none [] e = refl
harms_none (x ∷ s) e = absurd (omega arith)

-- a byte and those after it
pub harms-on : (s : List ℕ) (i : ℕ) → i < length s → harm (get_or s i 0) + harms (drop (i + 1) s) ≡ harms (drop i s)
unfolding harms
harms-on s i h = rw (drop-cons s i 0 h, add-one)

pub harms-end : (s : List ℕ) (i : ℕ) → length s ≤ i → harms (drop i s) ≡ 0
unfolding harms
harms-end s i h = rw (drop_of_length-le s h)

-- ---- whether there is any

-- no harm in one, and none in the others
none_more : (f n : ℕ) → eqb (pick (eqb f 0) 0 1 + n) 0 ≡ both (eqb f 0) (eqb n 0)
none_more f n = go (eqb f 0)
  where
    go : (t : Bool) → eqb (pick t 0 1 + n) 0 ≡ both t (eqb n 0)
    go true = ap (λ (x : ℕ). eqb x 0) (zero-add n)
    go false = ne_eqb (1 + n) 0 (λ e. omega arith)

pub checked_on :
    (l : List ℕ) (i s f : ℕ) → i < length l → harm (get_or l i 0) ≡ pick (eqb f 0) 0 1
    → both (eqb (bit_or s f) 0) (eqb (harms (drop (i + 1) l)) 0) ≡ both (eqb s 0) (eqb (harms (drop i l)) 0)
unfolding harms
checked_on l i s f h e =
    rw (drop-cons l i 0, add-one, e, none_more f (harms (drop (suc i) l))) (mixed_zero s f (eqb (harms (drop (suc i) l)) 0))

pub checked_end : (l : List ℕ) (i s : ℕ) → length l ≤ i → both (eqb s 0) (eqb (harms (drop i l)) 0) ≡ eqb s 0
unfolding harms
checked_end l i s h = rw drop_of_length-le (both_right (eqb s 0))
