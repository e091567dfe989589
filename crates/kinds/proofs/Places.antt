-- The number that parts of a list make: those from a place on, and those up to one. Assumes nothing.
use mathlib.Core.Path.{◌≡◌, ◌∙◌, sym, ap, ap₂}
use mathlib.Core.List.{List, [], ◌∷◌}
use Prim.Native.Nat.{ℕ, zero, suc, ◌+◌, ◌*◌, ◌/◌, ◌%◌, ◌^◌}
use native.Mathlib.Nat.{zero-mul, suc-mul, add_comm, div-one, zero-div, mod-one, zero-mod}
use lib.ListN.{take, drop}
use lib.Pow.{shr-shr, mod-pow-add}
use Rattle.fields.specs.Fields.{whole}
use Rattle.fields.proofs.Laid.{whole-first, whole-next}

pub whole_drop : (w k : ℕ) (xs : List ℕ) → whole w (drop k xs) ≡ whole w xs / 2 ^ (k * w)
whole_drop w zero xs = rw zero-mul (sym (div-one (whole w xs)))
whole_drop w (suc k) [] = unfold whole in sym (zero-div (2 ^ (suc k * w)))
whole_drop w (suc k) (x ∷ xs) =
    whole_drop w k xs
    ∙ ap (λ (n : ℕ). n / 2 ^ (k * w)) (sym (whole-next w x xs))
    ∙ shr-shr (whole w (x ∷ xs)) w (k * w)
    ∙ ap (λ (e : ℕ). whole w (x ∷ xs) / 2 ^ e) (add_comm w (k * w) ∙ sym (suc-mul k w))

pub whole_take : (w k : ℕ) (xs : List ℕ) → whole w (take k xs) ≡ whole w xs % 2 ^ (k * w)
unfolding whole
whole_take w zero xs = rw zero-mul (sym (mod-one (whole w xs)))
whole_take w (suc k) [] = sym (zero-mod (2 ^ (suc k * w)))
whole_take w (suc k) (x ∷ xs) =
    let n = whole w (x ∷ xs) in
    let e : n / 2 ^ w % 2 ^ (k * w) ≡ whole w (take k xs) =
    ap (λ (y : ℕ). y % 2 ^ (k * w)) (whole-next w x xs) ∙ sym (whole_take w k xs) in
    sym
    (ap (λ (y : ℕ). n % 2 ^ y) (suc-mul k w) ∙ mod-pow-add n (k * w) w
    ∙ ap₂ (λ (y z : ℕ). y * 2 ^ w + z) e (whole-first w x xs))
