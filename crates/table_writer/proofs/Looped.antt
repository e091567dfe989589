-- The fields of a form, a word or a descriptor at a time. Assumes nothing.
use mathlib.Core.Path.{◌≡◌, ◌∙◌, refl, sym, ap}
use mathlib.Core.Bool.{true}
use mathlib.Core.List.{List, [], ◌∷◌, ◌++◌}
use Prim.Native.Nat.{ℕ, suc, ◌+◌, ◌*◌, ◌<◌}
use native.Mathlib.Nat.{add-zero}
use native.Mathlib.Omega.{arith}
use borrow.Author.Tests.{ltb-true}
use lib.Dec.{ltb}
use lib.ListN.{get_or, drop}
use lib.Seq.{drop-drop, get_or-drop}
use Rattle.laws.proofs.Tests.{both_true}
use Rattle.fields.specs.Fields.{Field, alike, width, laid, fitting}
use Rattle.forms.specs.Tables.{per, loops}
use Rattle.forms.specs.Form.{word_at, words_in, descriptors_in}
use Rattle.forms.proofs.Forms.{in_on, entries_in_lem, fits_on}

pub alike-on :
    (left others i w : ℕ) (f : List ℕ) → left ≡ suc others → w ≡ word_at f i
    → alike 24 (words_in left (drop i f)) ≡ ((24, w) ∷ []) ++ alike 24 (words_in others (drop (i + 3) f))
unfolding alike words_in
alike-on left others i w f h e =
    ap (λ (n : ℕ). alike 24 (words_in n (drop i f))) h
    ∙ (rw (e, get_or-drop i f 2 0, get_or-drop i f 1 0, get_or-drop i f 0 0, add-zero i, drop-drop 3 i f))

-- ---- descriptors

-- a descriptor's id and count as one field of ten bits
abbrev pub heading : ℕ → ℕ → List Field
heading id c = (6, id) ∷ (4, c) ∷ []

pub heading-laid : (id c : ℕ) → id < 64 → c < 16 → c * 64 + id ≡ laid (heading id c) 0
unfolding laid
heading-laid id c hi hc = omega arith

pub heading-width : (id c : ℕ) → width (heading id c) ≡ 10
unfolding width
heading-width id c = refl

-- the fields of a descriptor, then those of the others
pub loops-on :
    (kind left others i id c words : ℕ) (f : List ℕ) → left ≡ suc others → id ≡ get_or f i 0 → c ≡ get_or f (i + 1) 0 → words ≡ per kind * c
    → loops kind (descriptors_in (per kind) left (drop i f))
    ≡ heading id c
    ++ (alike 24 (words_in words (drop (i + 2) f)) ++ loops kind (descriptors_in (per kind) others (drop (i + (2 + 3 * words)) f)))
unfolding loops
loops-on kind left others i id c words f h e₀ e₁ e₂ =
    rw (in_on (per kind) left others i id c words f h e₀ e₁ e₂, entries_in_lem kind c words (drop (i + 2) f) e₂)

-- what fits goes on fitting
pub fits_now :
    (kind left others i id c words : ℕ) (f : List ℕ) → left ≡ suc others → id ≡ get_or f i 0 → c ≡ get_or f (i + 1) 0 → words ≡ per kind * c
    → fitting (loops kind (descriptors_in (per kind) left (drop i f))) ≡ true
    → (id < 64) × (c < 16) × (fitting (loops kind (descriptors_in (per kind) others (drop (i + (2 + 3 * words)) f))) ≡ true)
fits_now kind left others i id c words f h e₀ e₁ e₂ k =
    let a = both_true (ltb id 64) _ (sym (fits_on kind left others i id c words f h e₀ e₁ e₂) ∙ k) in
    let b = both_true (ltb c 16) _ a.1 in
    (ltb-true id 64 a.0, ltb-true c 16 b.0, b.1)
