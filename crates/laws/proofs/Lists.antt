-- List facts that several crates cite and the kit lacks: stores in a row at a place of a list, and parts of a lent slice as the
-- checker reads them. Assumes nothing.
use mathlib.Core.Path.{◌≡◌, ◌∙◌}
use mathlib.Core.List.{List, [], ◌∷◌, ◌++◌}
use Prim.Native.Nat.{ℕ, suc, ◌+◌, ◌-◌, ◌≤◌}
use native.Mathlib.Nat.{add-zero, zero-add, add-suc, suc-add, le_of_eq}
use native.Mathlib.Omega.{arith}
use lib.ListN.{length, take, drop, set, length-drop}
use lib.Seq.{sets, sets-eq, take_all}

module _ {ℓ} {A : Type ℓ} where
  -- two runs of stores, one after the other, are one
  pub sets-append : (l : List A) (i : ℕ) (xs ys : List A) → sets l i (xs ++ ys) ≡ sets (sets l i xs) (i + length xs) ys
  sets-append l i [] ys = rw add-zero
  sets-append l i (x ∷ xs) ys = rw (add-suc, ← suc-add) (sets-append (set l i x) (suc i) xs ys)

  -- stores from the front on leave the rest
  pub sets-front : (l xs : List A) → length xs ≤ length l → sets l 0 xs ≡ xs ++ drop (length xs) l
  sets-front l xs h = sets-eq xs l 0 (rw zero-add h) ∙ rw zero-add

  -- `&s[a..]`
  pub part-rest : (a : ℕ) (l : List A) → take (length l - a) (drop a l) ≡ drop a l
  part-rest a l = take_all (length l - a) (drop a l) (le_of_eq (length-drop a l))

  -- `&s[a..e]` with e = a + n
  pub part_of : (a n : ℕ) (l : List A) → take (a + n - a) (drop a l) ≡ take n (drop a l)
  part_of a n l = let e : a + n - a ≡ n = omega arith in rw e
