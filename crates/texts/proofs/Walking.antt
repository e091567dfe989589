-- Texts gone along byte by byte. Assumes nothing.
use mathlib.Core.Path.{◌≡◌, refl, ap, sym}
use mathlib.Core.Bool.{Bool, true, false, ◌&&◌}
use mathlib.Core.List.{List, [], ◌∷◌}
use Prim.Native.Nat.{ℕ, suc, ◌+◌, ◌≤◌, ◌<◌}
use native.Mathlib.Omega.{arith}
use native.Mathlib.Numerals.{add-one}
use borrow.Author.Tests.{ne_eqb}
use lib.Dec.{eqb}
use Rattle.std.specs.Cmp.Lexicographic.{pointwise}
use lib.ListN.{length, drop, take, get_or, drop_of_length-le}
use lib.Seq.{drop-cons}
use Rattle.std.proofs.lemmas.Bool.Decides.{nat_tests}
use Rattle.laws.specs.Pick.{pick, both, either}
use Rattle.laws.proofs.Tests.{both_false}
use Rattle.texts.specs.Texts.{begins_with, same_text, stands_in, empty_from}

-- ---- one text at the front of another, or the same

eqb_comm : (a b : ℕ) → eqb a b ≡ eqb b a
eqb_comm a b = grind (arith, nat_tests)

eqb-suc : (a b : ℕ) → eqb (suc a) (suc b) ≡ eqb a b
eqb-suc a b = grind (arith, nat_tests)

and_is : (a b : Bool) → (a && b) ≡ both a b
and_is true b = refl
and_is false b = refl

pub begins_is : (p t : List ℕ) → pointwise eqb p (take (length p) t) ≡ begins_with p t
unfolding begins_with
begins_is [] t = refl
begins_is (x ∷ p) [] = refl
begins_is (x ∷ p) (y ∷ t) = rw (begins_is p t, eqb_comm x y) (and_is (eqb y x) (begins_with p t))

pub same_is : (t o : List ℕ) → pointwise eqb t o ≡ same_text t o
unfolding begins_with
same_is [] [] = refl
same_is [] (y ∷ o) = sym (ap (λ b. both b false) (ne_eqb 0 (length (y ∷ o)) (omega arith)))
same_is (x ∷ t) [] = sym (ap (λ b. both b true) (ne_eqb (length (x ∷ t)) 0 (omega arith)))
same_is (x ∷ t) (y ∷ o) = rw (same_is t o, eqb-suc (length t) (length o)) (go (eqb x y) (eqb (length t) (length o)))
  where
    go : (a c : Bool) → (a && both c (begins_with o t)) ≡ both c (both a (begins_with o t))
    go true c = refl
    go false true = refl
    go false false = refl

-- ---- one text within another

window_is : (p t : List ℕ) → length p ≤ length t → pointwise eqb (take (length p) t) p ≡ begins_with p t
unfolding begins_with
window_is [] t h = refl
window_is (x ∷ p) [] h = absurd (omega arith)
window_is (x ∷ p) (y ∷ t) h = rw (window_is p t (omega arith)) (and_is (eqb y x) (begins_with p t))

window_on : (p t : List ℕ) → length p ≤ length t → 0 < length p → stands_in p t ≡ either (pointwise eqb (take (length p) t) p) (stands_in p (drop 1 t))
unfolding stands_in
window_on p [] fits some = absurd (omega arith)
window_on p (y ∷ t) fits some = sym (ap (λ b. either b (stands_in p t)) (window_is p (y ∷ t) fits))

-- at a window w of the text, of which k bytes are asked for: the part is it, or stands in what is left behind the window's first byte
pub stands_on :
    (p t : List ℕ) {k : ℕ} {w rest : List ℕ} {b : Bool} → 0 < length p → k ≡ length p → k ≤ length t → w ≡ take k t → rest ≡ drop 1 t → b ≡ pointwise eqb w p
    → stands_in p t ≡ either b (stands_in p rest)
stands_on p t some size fits is on e =
    rw (e, is, on, size) (window_on p t (omega arith) some)

begins-not : (p t : List ℕ) → length t < length p → begins_with p t ≡ false
unfolding begins_with
begins-not [] t h = absurd (omega arith)
begins-not (x ∷ p) [] h = refl
begins-not (x ∷ p) (y ∷ t) h = rw (begins-not p t (omega arith)) (both_false (eqb y x))

pub stands-not : (p t : List ℕ) → length t < length p → stands_in p t ≡ false
unfolding stands_in
stands-not p [] h = begins-not p [] h
stands-not p (y ∷ t) h = rw (begins-not p (y ∷ t) h) (stands-not p t (omega arith))

pub stands_none : (p t : List ℕ) → length p ≡ 0 → true ≡ stands_in p t
unfolding stands_in begins_with
stands_none [] [] h = refl
stands_none [] (y ∷ t) h = refl
stands_none (x ∷ p) t h = absurd (omega arith)

-- ---- empty lines

pub line_on :
    (t : List ℕ) (i count : ℕ) (ended : Bool) → i < length t → {n : ℕ} → n ≡ count + pick (both (eqb (get_or t i 0) 10) ended) 1 0
    → n + empty_from (drop (i + 1) t) (eqb (get_or t i 0) 10) ≡ count + empty_from (drop i t) ended
unfolding empty_from
line_on t i count ended within {n} e = rw (add-one, drop-cons t i 0, e) (omega arith)

pub lines_end : (t : List ℕ) (i count : ℕ) (ended : Bool) → length t ≤ i → count + empty_from (drop i t) ended ≡ count
unfolding empty_from
lines_end t i count ended past = rw (drop_of_length-le t past) (omega arith)
