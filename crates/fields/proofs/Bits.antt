-- Nibbles as fields of the compound, and a field put together from them. Assumes nothing.
use mathlib.Core.Path.{◌≡◌, ◌∙◌, refl, sym, ap}
use mathlib.Core.List.{List, [], ◌∷◌, map}
use Prim.Native.Nat.{ℕ, zero, suc, ◌+◌, ◌-◌, ◌*◌, ◌/◌, ◌%◌, ◌^◌, ◌≤◌, ◌<◌}
use native.Mathlib.Nat.{one-mul, mod-one, mod-eq_of_lt, lt_of_lt_of_le, le_of_suc-le-suc, not-suc-le-zero}
use native.Mathlib.Omega.{arith}
use lib.Pow.{pow_mono, pow-lt}
use lib.ListN.{length, get_or}
use Rattle.octet.specs.Decoding.{nib}
use Rattle.fields.specs.Fields.{field}
use Rattle.fields.specs.Compound.{compound}
use Rattle.fields.proofs.Laid.{field_lt, field_past, field-join, field_in, whole-at}

pub get_d_nib : (s : List ℕ) (i : ℕ) → i < length s → get_or (map nib s) i 0 ≡ nib (get_or s i 0)
get_d_nib [] i h = absurd (not-suc-le-zero h)
get_d_nib (b ∷ s) zero h = refl
get_d_nib (b ∷ s) (suc i) h = get_d_nib s i (le_of_suc-le-suc h)

pub get_d_none : (s : List ℕ) (i : ℕ) → length s ≤ i → get_or (map nib s) i 0 ≡ 0
get_d_none [] i h = refl
get_d_none (b ∷ s) zero h = absurd (not-suc-le-zero h)
get_d_none (b ∷ s) (suc i) h = get_d_none s i (le_of_suc-le-suc h)

pub nibble_of_lem : (s : List ℕ) (i : ℕ) → field (i * 4) 4 (compound s) ≡ get_or (map nib s) i 0 % 16
nibble_of_lem s i = whole-at 4 (map nib s) i

-- a field put together from its nibbles, the highest first
pub none_yet : (end n : ℕ) → field (end * 4) ((end - end) * 4) n ≡ 0
unfolding field
none_yet end n = let e : (end - end) * 4 ≡ 0 = omega arith in rw e (mod-one (n / 2 ^ (end * 4)))

pub one_more :
    (i end n x : ℕ) → 0 < i → i ≤ end → x ≡ field (i * 4) ((end - i) * 4) n
    → x * 16 + field ((i - 1) * 4) 4 n ≡ field ((i - 1) * 4) ((end - (i - 1)) * 4) n
one_more i end n x p l e =
    ap (λ (y : ℕ). y * 16 + field ((i - 1) * 4) 4 n) e
    ∙ (rw (← at) (sym (field-join ((i - 1) * 4) 4 ((end - i) * 4) n) ∙ ap (λ (y : ℕ). field ((i - 1) * 4) y n) wide))
  where
    at : (i - 1) * 4 + 4 ≡ i * 4
    at = omega arith

    wide : (end - i) * 4 + 4 ≡ (end - (i - 1)) * 4
    wide = omega arith

-- a field fits as many bits as it has, and more
pub small : (at v w n : ℕ) → v ≤ w → field at v n < 2 ^ w
small at v w n h = lt_of_lt_of_le (field_lt at v n) (pow_mono h)

-- `1 << w`
pub power : (w : ℕ) → w ≤ 24 → 1 * 2 ^ w % 2 ^ 64 ≡ 2 ^ w
power w h = rw one-mul (mod-eq_of_lt (pow-lt {i = w} {j = 64} (omega arith)))

-- the w bits from `at` on, out of the field of the nibbles that hold them
pub cut_out :
    (at w end i n x : ℕ) → w ≤ 24 → i ≡ at / 4 → at % 4 + w ≤ (end - i) * 4 → x ≡ field (i * 4) ((end - i) * 4) n
    → x / 2 ^ (at % 4) % (1 * 2 ^ w % 2 ^ 64) ≡ field at w n
unfolding field
cut_out at w end i n x l e h q =
    rw (power w l, q)
    (field_in (at % 4) w ((end - i) * 4) (n / 2 ^ (i * 4)) h ∙ field_past (at % 4) w (i * 4) n
    ∙ ap (λ (y : ℕ). field y w n) place)
  where
    place : i * 4 + at % 4 ≡ at
    place = omega arith
