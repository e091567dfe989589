-- The stores of a record. Assumes nothing.
use mathlib.Core.Path.{◌≡◌}
use mathlib.Core.List.{List, ◌∷◌}
use Prim.Native.Nat.{ℕ, suc, ◌+◌}
use native.Mathlib.Numerals.{add-one}
use native.Mathlib.Omega.{arith}
use lib.ListN.{set}
use lib.Seq.{sets}

-- a record's head of four bytes, and then the others
pub head_first :
    (l xs : List ℕ) (q a b c d : ℕ)
    → sets (set (set (set (set l q a) (q + 1) b) (q + 2) c) (q + 3) d) (q + 4) xs ≡ sets l q (a ∷ b ∷ c ∷ d ∷ xs)
head_first l xs q a b c d =
    let two : q + 2 ≡ suc (suc q) = omega arith in
    let three : q + 3 ≡ suc (suc (suc q)) = omega arith in
    let four : q + 4 ≡ suc (suc (suc (suc q))) = omega arith in
    rw (two, three, four, add-one q)
