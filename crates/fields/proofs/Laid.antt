-- Laws of fields, parts and the numbers that they make, each over the width. Assumes nothing.
use mathlib.Core.Path.{◌≡◌, ◌∙◌, refl, sym, ap, ap₂, subst}
use mathlib.Core.Bool.{true}
use mathlib.Core.List.{List, [], ◌∷◌, ◌++◌, map}
use Prim.Native.Nat.{ℕ, zero, suc, ◌+◌, ◌-◌, ◌*◌, ◌/◌, ◌%◌, ◌^◌, ◌≤◌, ◌<◌}
use native.Mathlib.Nat.{add-zero, zero-add, add_comm, add_assoc, add-mul, mul-one, mul_assoc, suc-add, suc-mul, zero-mul, mod-lt, mod-mod, mod-eq_of_lt, div-one, zero-div, mod-one, zero-mod}
use native.Mathlib.Omega.{arith}
use borrow.Author.Tests.{ltb-true, lt-ltb}
use lib.Dec.{ltb}
use lib.ListN.{length, get_or}
use lib.Arith.{digits_lt}
use lib.Pow as Pow
use lib.Pow.{pow-add, pow_pos, shr-shr, split, high, low, mod-pow-add, mod-mod-pow}
use Rattle.laws.specs.Pick.{both}
use Rattle.laws.proofs.Tests.{both_true, both_assoc}
use Rattle.fields.specs.Fields.{Field, alike, width, laid, fitting, field, parts, whole}

-- ---- fields of a number

pub field_lt : (at w n : ℕ) → field at w n < 2 ^ w
unfolding field
field_lt at w n = mod-lt (n / 2 ^ at) (pow_pos w)

-- a field of what is left of a number is one further on
pub field_past : (at w b n : ℕ) → field at w (n / 2 ^ b) ≡ field (b + at) w n
unfolding field
field_past at w b n = ap (λ (x : ℕ). x % 2 ^ w) (shr-shr n b at)

pub field-first : (w n : ℕ) → field 0 w n ≡ n % 2 ^ w
unfolding field
field-first w n = ap (λ (x : ℕ). x % 2 ^ w) (div-one n)

-- two fields in a row are one
pub field-join : (at w v n : ℕ) → field at (v + w) n ≡ field (at + w) v n * 2 ^ w + field at w n
unfolding field
field-join at w v n = rw (← shr-shr) (mod-pow-add (n / 2 ^ at) v w)

-- a field that lies within the w lowest bits is theirs
pub field_in : (at v w n : ℕ) → at + v ≤ w → field at v (n % 2 ^ w) ≡ field at v n
unfolding field
field_in at v w n h =
    subst (λ (x : ℕ). n % 2 ^ x / 2 ^ at % 2 ^ v ≡ n / 2 ^ at % 2 ^ v) e
    (ap (λ (x : ℕ). x % 2 ^ v) (Pow.field n (w - (at + v) + v) at) ∙ mod-mod-pow (n / 2 ^ at) (w - (at + v)) v)
  where
    e : w - (at + v) + v + at ≡ w
    e = omega arith

-- ---- fields laid in a row

pub laid-first : (f : Field) (fs : List Field) (rest : ℕ) → laid (f ∷ fs) rest % 2 ^ f.0 ≡ f.1 % 2 ^ f.0
unfolding laid
laid-first f fs rest = low (laid fs rest) f.0 (mod-lt f.1 (pow_pos f.0))

pub laid_next : (f : Field) (fs : List Field) (rest : ℕ) → laid (f ∷ fs) rest / 2 ^ f.0 ≡ laid fs rest
unfolding laid
laid_next f fs rest = high (laid fs rest) f.0 (mod-lt f.1 (pow_pos f.0))

pub laid-append : (fs gs : List Field) (rest : ℕ) → laid (fs ++ gs) rest ≡ laid fs (laid gs rest)
unfolding laid
laid-append [] gs rest = refl
laid-append (f ∷ fs) gs rest = rw (laid-append fs gs rest)

pub width-append : (fs gs : List Field) → width (fs ++ gs) ≡ width fs + width gs
unfolding width
width-append [] gs = sym (zero-add (width gs))
width-append (f ∷ fs) gs = rw (width-append fs gs, add_assoc)

-- above the last field stands the rest
pub laid-past : (fs : List Field) (rest : ℕ) → laid fs rest / 2 ^ width fs ≡ rest
unfolding width
laid-past [] rest = unfold laid in div-one rest
laid-past (f ∷ fs) rest = sym (shr-shr (laid (f ∷ fs) rest) f.0 (width fs)) ∙ rw laid_next (laid-past fs rest)

pub laid-drop : (fs gs : List Field) (rest : ℕ) → laid (fs ++ gs) rest / 2 ^ width fs ≡ laid gs rest
laid-drop fs gs rest = rw laid-append (laid-past fs (laid gs rest))

-- the field behind others is its value, as far as it fits
pub laid-at :
    (fs : List Field) (w v : ℕ) (gs : List Field) (rest : ℕ)
    → field (width fs) w (laid (fs ++ (w, v) ∷ gs) rest) ≡ v % 2 ^ w
unfolding field
laid-at fs w v gs rest = rw laid-drop (laid-first (w, v) gs rest)

pub laid_lt : (fs : List Field) (rest v : ℕ) → rest < 2 ^ v → laid fs rest < 2 ^ (v + width fs)
unfolding laid width
laid_lt [] rest v h = rw add-zero h
laid_lt (f ∷ fs) rest v h =
    subst (λ (x : ℕ). laid (f ∷ fs) rest < x) (sym (pow-add 2 (v + width fs) f.0) ∙ ap (λ (x : ℕ). 2 ^ x) e)
    (digits_lt (laid_lt fs rest v h) (mod-lt f.1 (pow_pos f.0)))
  where
    e : v + width fs + f.0 ≡ v + (f.0 + width fs)
    e = omega arith

-- what stands above the fields is added to them
pub laid-above : (fs : List Field) (rest : ℕ) → laid fs rest ≡ rest * 2 ^ width fs + laid fs 0
unfolding laid width
laid-above [] rest = sym (add-zero (rest * 1) ∙ mul-one rest)
laid-above (f ∷ fs) rest =
    let m = 2 ^ f.0 in
    let v = f.1 % 2 ^ f.0 in
    ap (λ (x : ℕ). x * m + v) (laid-above fs rest)
    ∙ ap (λ (x : ℕ). x + v) (add-mul (rest * 2 ^ width fs) (laid fs 0) m)
    ∙ add_assoc (rest * 2 ^ width fs * m) (laid fs 0 * m) v
    ∙ ap (λ (x : ℕ). x + (laid fs 0 * m + v)) (mul_assoc rest (2 ^ width fs) m ∙ ap (λ (x : ℕ). rest * x) (sym (pow-add 2 (width fs) f.0) ∙ ap (λ (x : ℕ). 2 ^ x) (add_comm (width fs) f.0)))

-- ---- parts of a number, and the number that parts make

pub length-parts : (w k n : ℕ) → length (parts w k n) ≡ k
unfolding parts
length-parts w zero n = refl
length-parts w (suc k) n = ap suc (length-parts w k (n / 2 ^ w))

-- parts in a row, from where the first end
pub parts-append : (w a b n : ℕ) → parts w (a + b) n ≡ parts w a n ++ parts w b (n / 2 ^ (a * w))
unfolding parts
parts-append w zero b n = rw (zero-add, zero-mul, div-one)
parts-append w (suc a) b n =
    rw (suc-add, parts-append w a b (n / 2 ^ w), shr-shr, suc-mul, add_comm (a * w) w)

-- only the bits that parts take count
pub parts_same : (w k m n : ℕ) → m % 2 ^ (k * w) ≡ n % 2 ^ (k * w) → parts w k m ≡ parts w k n
unfolding parts
parts_same w zero m n e = refl
parts_same w (suc k) m n e =
    let wide : suc k * w ≡ k * w + w = suc-mul k w in
    let e' : m % 2 ^ (k * w + w) ≡ n % 2 ^ (k * w + w) = subst (λ (x : ℕ). m % 2 ^ x ≡ n % 2 ^ x) wide e in
    ap₂ (λ (x : ℕ) (xs : List ℕ). x ∷ xs)
    (sym (mod-mod-pow m (k * w) w) ∙ ap (λ (x : ℕ). x % 2 ^ w) e' ∙ mod-mod-pow n (k * w) w)
    (parts_same w k (m / 2 ^ w) (n / 2 ^ w)
    (sym (Pow.field m (k * w) w) ∙ ap (λ (x : ℕ). x / 2 ^ w) e' ∙ Pow.field n (k * w) w))

pub whole_lt : (w : ℕ) (xs : List ℕ) → whole w xs < 2 ^ (length xs * w)
unfolding whole
whole_lt w [] = rw zero-mul (pow_pos 0)
whole_lt w (x ∷ xs) =
    subst (λ (y : ℕ). whole w (x ∷ xs) < y) (sym (pow-add 2 (length xs * w) w) ∙ ap (λ (y : ℕ). 2 ^ y) (sym (suc-mul (length xs) w)))
    (digits_lt (whole_lt w xs) (mod-lt x (pow_pos w)))

pub whole-first : (w x : ℕ) (xs : List ℕ) → whole w (x ∷ xs) % 2 ^ w ≡ x % 2 ^ w
unfolding whole
whole-first w x xs = low (whole w xs) w (mod-lt x (pow_pos w))

pub whole-next : (w x : ℕ) (xs : List ℕ) → whole w (x ∷ xs) / 2 ^ w ≡ whole w xs
unfolding whole
whole-next w x xs = high (whole w xs) w (mod-lt x (pow_pos w))

-- part i of the number that parts make
pub whole-at : (w : ℕ) (xs : List ℕ) (i : ℕ) → field (i * w) w (whole w xs) ≡ get_or xs i 0 % 2 ^ w
whole-at w [] i = unfold field whole in (rw (zero-div, zero-mod))
whole-at w (x ∷ xs) zero = rw (zero-mul, field-first) (whole-first w x xs)
whole-at w (x ∷ xs) (suc i) = rw (suc-mul, add_comm, ← field_past, whole-next) (whole-at w xs i)

-- the k lowest parts make the number that they are of, as far as they go
pub whole_parts : (w k n : ℕ) → whole w (parts w k n) ≡ n % 2 ^ (k * w)
unfolding whole parts
whole_parts w zero n = rw zero-mul (sym (mod-one n))
whole_parts w (suc k) n = rw (whole_parts w k (n / 2 ^ w), mod-mod, suc-mul) (sym (mod-pow-add n (k * w) w))

-- parts of the number that parts make are those, as far as they fit
pub parts_whole : (w : ℕ) (xs : List ℕ) → parts w (length xs) (whole w xs) ≡ map (λ (x : ℕ). x % 2 ^ w) xs
unfolding whole parts
parts_whole w [] = refl
parts_whole w (x ∷ xs) =
    ap₂ (λ (y : ℕ) (ys : List ℕ). y ∷ ys) (whole-first w x xs)
    (ap (λ (y : ℕ). parts w (length xs) y) (whole-next w x xs) ∙ parts_whole w xs)

-- a number laid out again by its own fields: the field at a place, then what is above it
pub lay :
    (at w n : ℕ) (fs : List Field) (rest : ℕ) → n / 2 ^ (at + w) ≡ laid fs rest
    → n / 2 ^ at ≡ laid ((w, field at w n) ∷ fs) rest
unfolding laid field
lay at w n fs rest e =
    sym (split (n / 2 ^ at) w) ∙ (rw (shr-shr, e, mod-mod))

-- a run of parts in the same way
pub lay-parts :
    (w k n : ℕ) (fs : List Field) (rest : ℕ) → n / 2 ^ (k * w) ≡ laid fs rest
    → n ≡ laid (alike w (parts w k n) ++ fs) rest
unfolding laid parts alike
lay-parts w zero n fs rest e = sym (div-one n) ∙ (rw zero-mul at e)
lay-parts w (suc k) n fs rest e =
    let up : n / 2 ^ w / 2 ^ (k * w) ≡ laid fs rest = shr-shr n w (k * w) ∙ ap (λ (x : ℕ). n / 2 ^ x) (add_comm w (k * w) ∙ sym (suc-mul k w)) ∙ e in
    sym (split n w) ∙ (rw (← (lay-parts w k (n / 2 ^ w) fs rest up), mod-mod))

-- parts of what is laid in parts are those, and the rest follows
pub parts-laid :
    (w : ℕ) (xs : List ℕ) (rest : ℕ) → fitting (alike w xs) ≡ true
    → parts w (length xs) (laid (alike w xs) rest) ≡ xs
unfolding parts fitting alike
parts-laid w [] rest h = refl
parts-laid w (x ∷ xs) rest h =
    let p = both_true (ltb x (2 ^ w)) (fitting (alike w xs)) h in
    let fs : List Field = alike w xs in
    ap₂ (λ (y : ℕ) (ys : List ℕ). y ∷ ys) (laid-first (w, x) fs rest ∙ mod-eq_of_lt (ltb-true x (2 ^ w) p.0))
    (ap (parts w (length xs)) (laid_next (w, x) fs rest) ∙ parts-laid w xs rest p.1)

pub width-row : (w : ℕ) (xs : List ℕ) → width (alike w xs) ≡ length xs * w
unfolding width alike
width-row w [] = sym (zero-mul w)
width-row w (x ∷ xs) = rw (width-row w xs, suc-mul) (add_comm w (length xs * w))

-- ---- values that fit

pub fitting-append : (fs gs : List Field) → fitting (fs ++ gs) ≡ both (fitting fs) (fitting gs)
unfolding fitting
fitting-append [] gs = refl
fitting-append (f ∷ fs) gs = rw (fitting-append fs gs) (both_assoc (ltb f.1 (2 ^ f.0)) (fitting fs) (fitting gs))

pub fitting-parts : (w k n : ℕ) → fitting (alike w (parts w k n)) ≡ true
unfolding fitting parts alike
fitting-parts w zero n = refl
fitting-parts w (suc k) n = rw (lt-ltb (n % 2 ^ w) (2 ^ w) (mod-lt n (pow_pos w))) (fitting-parts w k (n / 2 ^ w))
