-- The comparison of two slices is the order of texts: byte by byte, a prefix first. Assumes nothing.
use mathlib.Core.Path.{◌≡◌, refl}
use mathlib.Core.Bool.{Bool}
use mathlib.Core.List.{List}
use Prim.Native.Nat.{ℕ}
use native.Mathlib.Omega.{arith}
use Rattle.std.specs.declared.option.Option.TheVariants.{Some}
use Rattle.std.specs.Ordering.{nat_cmp, is_le, is_some_and}
use Rattle.std.specs.Cmp.Lexicographic.{slice_partial_cmp}
use Rattle.std.proofs.lemmas.Cmp.{same_from_slice_cmp_tested}
use Rattle.std.proofs.lemmas.Bool.Decides.{nat_tests}
use Rattle.laws.specs.Orders.{before}

pub slices_before :
    (xs ys : List ℕ) {r : Bool} → r ≡ is_some_and is_le (slice_partial_cmp (λ x y. Some (nat_cmp x y)) xs ys) → r ≡ before xs ys
unfolding before
slices_before xs ys {r} h =
    same_from_slice_cmp_tested nat_cmp is_le before refl (λ y ys. refl) (λ x xs. refl) (λ x y xs ys o e. grind (arith, nat_tests)) xs ys r h
