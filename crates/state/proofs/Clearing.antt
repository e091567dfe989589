-- The zeros of the store, all or-ed. Assumes nothing.
use mathlib.Core.Path.{◌≡◌}
use mathlib.Core.Bool.{true, false}
use mathlib.Core.List.{List}
use Prim.Native.Nat.{ℕ, suc, ◌+◌, ◌≤◌, ◌<◌}
use native.Mathlib.Numerals.{add-one}
use native.Mathlib.Omega.{arith}
use lib.ListN.{length, get_or, drop, drop_of_length-le}
use lib.Seq.{drop-cons}
use lib.Dec.{eqb}
use lib.Bits.{bit_or}
use Rattle.laws.specs.Pick.{both}
use Rattle.laws.proofs.Tests.{both_right, mixed_zero}
use Rattle.state.specs.State.{zeros}

pub untrue {ℓ} : {A : Type ℓ} → false ≡ true → A
untrue e = let z : ◌≡◌ {A = ℕ} 0 1 = cc in absurd (omega arith)

-- ---- the store's zeros, all or-ed

pub clear-on :
    (l : List ℕ) (i s : ℕ) → i < length l
    → both (eqb (bit_or s (get_or l i 0)) 0) (zeros (drop (i + 1) l)) ≡ both (eqb s 0) (zeros (drop i l))
unfolding zeros
clear-on l i s h = rw (drop-cons l i 0, add-one) (mixed_zero s (get_or l i 0) (zeros (drop (suc i) l)))

pub clear-ends : (l : List ℕ) (i s : ℕ) → length l ≤ i → both (eqb s 0) (zeros (drop i l)) ≡ eqb s 0
unfolding zeros
clear-ends l i s h = rw drop_of_length-le (both_right (eqb s 0))
