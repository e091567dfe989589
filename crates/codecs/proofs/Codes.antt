-- What a list begins with, said without its length: past its end it reads as zeros. So parts of unknown length compose with no side
-- condition, and the length is used once, at the end. Assumes nothing.
use mathlib.Core.Path.{◌≡◌, ◌∙◌, refl, sym, ap, ap₂}
use mathlib.Core.List.{List, [], ◌∷◌, ◌++◌, append-nil}
use Prim.Native.Nat.{ℕ, zero, suc, ◌+◌}
use native.Mathlib.Nat.{zero-add, suc-add}
use lib.ListN.{length, drop, length-append}
use lib.Seq.{drop-nil}
use Rattle.codecs.specs.Rows.{each, codes_in}

-- l begins with xs
abbrev pub Begins : List ℕ → List ℕ → Type 0
Begins l xs = codes_in (length xs) l ≡ xs

pub codes-back : (cs rest : List ℕ) → codes_in (length cs) (cs ++ rest) ≡ cs
unfolding codes_in
codes-back [] rest = refl
codes-back (c ∷ cs) rest = ap (λ (x : List ℕ). c ∷ x) (codes-back cs rest)

pub codes-count : (k : ℕ) (l : List ℕ) → length (codes_in k l) ≡ k
unfolding codes_in
codes-count zero l = refl
codes-count (suc k) l = ap suc (codes-count k (drop 1 l))

pub codes-join : (a b : ℕ) (l : List ℕ) → codes_in (a + b) l ≡ codes_in a l ++ codes_in b (drop a l)
unfolding codes_in
codes-join zero b l = ap (λ (k : ℕ). codes_in k l) (zero-add b)
codes-join (suc a) b [] =
    rw suc-add (ap (λ (x : List ℕ). 0 ∷ x) (codes-join a b [] ∙ ap (λ (x : List ℕ). codes_in a [] ++ codes_in b x) (drop-nil a)))
codes-join (suc a) b (c ∷ l) = rw suc-add (ap (λ (x : List ℕ). c ∷ x) (codes-join a b l))

pub begins-none : (l : List ℕ) → Begins l []
unfolding codes_in
begins-none l = refl

pub begins-append : (l xs ys : List ℕ) → Begins l xs → Begins (drop (length xs) l) ys → Begins l (xs ++ ys)
begins-append l xs ys p q =
    ap (λ (k : ℕ). codes_in k l) (length-append xs ys) ∙ codes-join (length xs) (length ys) l ∙ ap₂ (λ (x y : List ℕ). x ++ y) p q

pub begins-codes : (k : ℕ) (l : List ℕ) → Begins l (codes_in k l)
begins-codes k l = ap (λ (n : ℕ). codes_in n l) (codes-count k l)

-- and is all of it where it is as long
pub begins-all : (l xs : List ℕ) → Begins l xs → length l ≡ length xs → l ≡ xs
begins-all l xs b e = sym (ap (codes_in (length l)) (sym (append-nil l)) ∙ codes-back l []) ∙ ap (λ (k : ℕ). codes_in k l) e ∙ b

-- things without codes have none in a row
pub each_none : {E A : Type 0} (es : List E) → each {A = A} (λ (e : E). []) es ≡ []
each_none [] = refl
each_none (e ∷ es) = each_none es

-- what makes the same of each makes the same of all
module _ {E A : Type 0} {f g : E → List A} (same : (e : E) → f e ≡ g e) where
  pub each-alike : (es : List E) → each f es ≡ each g es
  each-alike [] = refl
  each-alike (e ∷ es) = ap₂ (λ (x y : List A). x ++ y) (same e) (each-alike es)
