-- A eight of eight entries by its number, and an entry of it by its place, over any rule that a computed test holds to them.
-- Assumes nothing.
use mathlib.Core.Path.{◌≡◌, ◌∙◌, sym, ap}
use Prim.Native.Nat.{ℕ, zero, suc, ◌*◌, ◌/◌, ◌%◌, ◌^◌, ◌<◌, ◌≤◌}
use native.Mathlib.Omega.{arith}
use lib.Dec.{T, eqb, eqb→eq}
use Rattle.laws.specs.Range.{all}
use Rattle.laws.proofs.Whole.{all-at}
use Rattle.octet.specs.Packing.{packed}

-- the eight with number k, as antt computes it, is the eight at i
pub eight_at : (g : ℕ → ℕ) (i k n : ℕ) → i ≡ k → n ≡ packed g (8 * k) 8 → n ≡ packed g (8 * i) 8
eight_at g i k n e h = h ∙ sym (ap (λ (x : ℕ). packed g (8 * x) 8) e)

-- i is none of the n numbers below n, as a `match` with an arm for each says it in its last arm
abbrev pub NoneBelow : ℕ → ℕ → Type 0
NoneBelow zero i = Unit
NoneBelow (suc n) i = NoneBelow n i × (i ≡ n → ⊥)

above : (i n : ℕ) → n ≤ i → (i ≡ n → ⊥) → suc n ≤ i
above i n h e = omega (arith, h, e)

-- so it is n or more
pub past : (i n : ℕ) → NoneBelow n i → n ≤ i
past i zero t = omega arith
past i (suc n) t = above i n (past i n t.0) t.1

pub last : (i : ℕ) → 31 ≤ i → i < 32 → i ≡ 31
last i a b = omega (arith, a, b)

-- the entry of byte b in its eight
abbrev pub entry : ℕ → ℕ → ℕ
entry eight b = eight / 2 ^ (8 * (b % 8)) % 256

pub entry_at :
    (g : ℕ → ℕ)
    → T (all (λ (b : ℕ). eqb (entry (packed g (8 * (b / 8)) 8) b) (g b)) 0 256)
    → (eight b : ℕ) → b < 256
    → eight ≡ packed g (8 * (b / 8)) 8
    → entry eight b ≡ g b
entry_at g t eight b h e =
    ap (λ (x : ℕ). entry x b) e ∙ eqb→eq _ _ (all-at (λ (x : ℕ). eqb (entry (packed g (8 * (x / 8)) 8) x) (g x)) 256 t b h)
