-- The subtitles of a form and of a descriptor, one after the other. Assumes nothing.
use mathlib.Core.Path.{◌≡◌, ◌∙◌, refl, sym, ap}
use mathlib.Core.Bool.{Bool, true, false}
use mathlib.Core.List.{List, [], ◌∷◌, ◌++◌}
use Prim.Native.Nat.{ℕ, zero, suc, ◌+◌, ◌*◌, ◌/◌, ◌≤◌}
use native.Mathlib.Nat.{add-zero}
use native.Mathlib.Omega.{arith}
use borrow.Author.Tests.{eq-eqb, ne_eqb}
use lib.Dec.{eqb}
use lib.ListN.{length, get_or, drop, length-append}
use lib.Seq.{drop-drop, get_or-drop}
use Rattle.forms.specs.Tables.{TI, per}
use Rattle.forms.specs.Form.{form, word_at, words_in, listed, descriptors_in, table_in}
use Rattle.forms.proofs.Forms.{in_on, listed-step}
use Rattle.forms.proofs.Measures.{length-form}
use Rattle.dvb_descriptor.specs.declared.Subtitle.{Subtitle}
use Rattle.dvb_descriptor.specs.Subtitles.{subtitle_of, paired, subtitles_in, subtitles_of}
use Rattle.dvb_descriptor.specs.Entries.{type_in, subtitle_in, kept, kept_in}

-- ---- of a form

-- one subtitle on
pub pair-on :
    (left others i l p : ℕ) (f : List ℕ) → left ≡ suc others → l ≡ word_at f i → p ≡ word_at f (i + 3)
    → paired (words_in (2 * left) (drop i f)) ≡ subtitle_of l p ∷ paired (words_in (2 * others) (drop (i + 6) f))
unfolding paired words_in
pair-on left others i l p f h e e' =
    let two : 2 * left ≡ suc (suc (2 * others)) = omega arith in
    let six : i + 3 + 3 ≡ i + 6 = omega arith in
    rw (
      two,
      drop-drop 3 i f,
      drop-drop 3 (i + 3) f,
      six,
      get_or-drop i f 2 0,
      get_or-drop i f 1 0,
      get_or-drop i f 0 0,
      add-zero i,
      get_or-drop (i + 3) f 2 0,
      get_or-drop (i + 3) f 1 0,
      get_or-drop (i + 3) f 0 0,
      add-zero (i + 3),
      e,
      e',
    )

-- one descriptor on
pub descriptor-on :
    (left others i c : ℕ) (f : List ℕ) → left ≡ suc others → c ≡ get_or f (i + 1) 0
    → subtitles_in (descriptors_in 2 left (drop i f))
    ≡ paired (words_in (2 * c) (drop (i + 2) f)) ++ subtitles_in (descriptors_in 2 others (drop (i + (2 + 6 * c)) f))
unfolding subtitles_in
descriptor-on left others i c f h e =
    let six : 3 * (2 * c) ≡ 6 * c = omega arith in
    ap subtitles_in (in_on 2 left others i (get_or f i 0) c (2 * c) f h refl e refl)
    ∙ ap (λ (n : ℕ). paired (words_in (2 * c) (drop (i + 2) f)) ++ subtitles_in (descriptors_in 2 others (drop (i + (2 + n)) f))) six

-- as many subtitles as counted
pub length-paired : (k : ℕ) (f : List ℕ) → length (paired (words_in (2 * k) f)) ≡ k
unfolding paired words_in
length-paired zero f = refl
length-paired (suc k) f =
    let two : 2 * suc k ≡ suc (suc (2 * k)) = omega arith in
    rw two (ap suc (length-paired k (drop 3 (drop 3 f))))

-- a descriptor of a form has two bytes of its own, and six of each subtitle
listed-count :
    (k : ℕ) (f : List ℕ) → length (listed TI (descriptors_in 2 k f)) ≡ 2 * k + 6 * length (subtitles_in (descriptors_in 2 k f))
unfolding subtitles_in descriptors_in
listed-count zero f = unfold listed in refl
listed-count (suc k) f =
    let c = get_or f 1 0 in
    let rest = drop (2 + 3 * (2 * c)) f in
    let own = length-append (paired (words_in (2 * c) (drop 2 f))) (subtitles_in (descriptors_in 2 k rest)) in
    omega (arith, listed-step TI 2 k f, listed-count k rest, own, length-paired c (drop 2 f))

-- so a form's length says how many subtitles it has
pub form-count :
    (f : List ℕ) → get_or f 0 0 ≡ TI → length (form (table_in f)) ≡ 6 + (2 * get_or f 5 0 + 6 * length (subtitles_of (table_in f)))
unfolding table_in per
form-count f e = length-form (table_in f) ∙ (rw e (ap (λ (n : ℕ). 6 + n) (listed-count (get_or f 5 0) (drop 6 f))))

-- ---- of a descriptor

kept-first : (t : Bool) (s : Subtitle) (ss : List Subtitle) → kept t s ss ≡ kept t s [] ++ ss
unfolding kept
kept-first true s ss = refl
kept-first false s ss = refl

-- one entry on
pub kept_on :
    (left others i : ℕ) (b : List ℕ) → left ≡ suc others → kept_in left (drop i b) ≡ kept_in 1 (drop i b) ++ kept_in others (drop (i + 5) b)
unfolding kept_in
kept_on left others i b h =
    ap (λ (n : ℕ). kept_in n (drop i b)) h
    ∙ (rw (drop-drop 5 i b) (kept-first (eqb (type_in (drop i b)) 2) (subtitle_in (drop i b)) (kept_in others (drop (i + 5) b))))

-- an entry that is a subtitle, and one that isn't
pub kept-one : (i n : ℕ) (b : List ℕ) → n ≡ get_or b (i + 3) 0 → n / 8 ≡ 2 → kept_in 1 (drop i b) ≡ subtitle_in (drop i b) ∷ []
unfolding kept_in kept
kept-one i n b e h =
    let t : eqb (type_in (drop i b)) 2 ≡ true =
    eq-eqb (type_in (drop i b)) 2 (ap (λ (x : ℕ). x / 8) (get_or-drop i b 3 0 ∙ sym e) ∙ h) in
    rw t

pub kept-none : (i n : ℕ) (b : List ℕ) → n ≡ get_or b (i + 3) 0 → (n / 8 ≡ 2 → ⊥) → kept_in 1 (drop i b) ≡ []
unfolding kept_in kept
kept-none i n b e h =
    let t : eqb (type_in (drop i b)) 2 ≡ false =
    ne_eqb (type_in (drop i b)) 2 (λ x. h (ap (λ (y : ℕ). y / 8) (e ∙ sym (get_or-drop i b 3 0)) ∙ x)) in
    rw t

-- at most as many as there are entries
pub kept_few : (k : ℕ) (b : List ℕ) → length (kept_in k b) ≤ k
unfolding kept_in kept
kept_few zero b = omega arith
kept_few (suc k) b = go (eqb (type_in b) 2) (kept_few k (drop 5 b))
  where
    go : (t : Bool) → length (kept_in k (drop 5 b)) ≤ k → length (kept t (subtitle_in b) (kept_in k (drop 5 b))) ≤ suc k
    go true h = omega arith
    go false h = omega arith
