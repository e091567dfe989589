-- The rows of the parity checks: each is eight bits, a row is multiplied with a byte's bits one place a step, and the search for
-- the fault place goes one place a step. Assumes nothing.
use mathlib.Core.Path.{◌≡◌}
use mathlib.Core.List.{List, []}
use Prim.Native.Nat.{ℕ, suc, ◌+◌, ◌-◌, ◌*◌, ◌/◌, ◌%◌, ◌<◌, ◌≤◌}
use native.Mathlib.Nat.{mul-le-mul}
use native.Mathlib.Numerals.{add-one}
use native.Mathlib.Omega.{arith}
use lib.Dec.{eqb, leb, eqb→eq, leb→le}
use lib.ListN.{length, get_or, drop, drop_of_length-le}
use lib.Seq.{drop-cons}
use borrow.Author.Tests.{eq-eqb, ne_eqb}
use Rattle.laws.proofs.Whole.{all-at, all2_at}
use Rattle.octet.specs.Parity.{checks, product, column, place_from}

-- row k
abbrev pub row : ℕ → List ℕ
row k = get_or checks k []

pub row-length : (k : ℕ) → k < 4 → length (row k) ≡ 8
unfolding checks
row-length k h = eqb→eq _ 8 (all-at (λ (j : ℕ). eqb (length (row j)) 8) 4 tt k h)

pub row-bit : (k i : ℕ) → k < 4 → i < 8 → get_or (row k) i 0 ≤ 1
unfolding checks
row-bit k i hk hi = leb→le _ 1 (all2_at (λ (j m : ℕ). leb (get_or (row j) m 0) 1) 4 8 tt k i hk hi)

-- a bit of a row times a bit of a byte is a bit
pub bit-product : (r b : ℕ) → r ≤ 1 → r * (b % 2) ≤ 1
bit-product r b h = mul-le-mul {m₂ = 1} h (omega arith)

-- one place of the product: the parity so far takes the place's bit in
pub product-step :
    (l : List ℕ) (i sum rest : ℕ) → i < length l
    → ((sum + get_or l i 0 * (rest % 2)) % 2 + product (drop (i + 1) l) (rest / 2)) % 2 ≡ (sum + product (drop i l) rest) % 2
unfolding product
product-step l i sum rest h = rw (add-one, drop-cons l i 0) (omega arith)

-- past the last place the parity so far is the product's
pub product-end : (l : List ℕ) (i sum rest : ℕ) → length l ≤ i → sum ≤ 1 → (sum + product (drop i l) rest) % 2 ≡ sum
unfolding product
product-end l i sum rest h b = rw drop_of_length-le (omega arith)

-- a place that isn't it is passed by
pub place-step :
    (i s : ℕ) → i < 8 → (column i ≡ s → ⊥) → place_from (8 - i) i s ≡ place_from (8 - (i + 1)) (i + 1) s
unfolding place_from
place-step i s h e =
    let p : 8 - i ≡ suc (8 - (i + 1)) = omega arith in
    rw (p, ne_eqb (column i) s e, add-one)

pub place_found : (i s : ℕ) → i < 8 → column i ≡ s → place_from (8 - i) i s ≡ i
unfolding place_from
place_found i s h e =
    let p : 8 - i ≡ suc (8 - (i + 1)) = omega arith in
    rw (p, eq-eqb (column i) s e)

-- no place is left
pub place_none : (i s : ℕ) → 8 ≤ i → place_from (8 - i) i s ≡ 16
unfolding place_from
place_none i s h = let p : 8 - i ≡ 0 = omega arith in rw p
