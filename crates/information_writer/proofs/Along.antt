-- Along a form: a value, a row, codes, and what is left of them. Assumes nothing.
use mathlib.Core.Path.{◌≡◌, ◌∙◌, refl, sym, ap, ap₂}
use mathlib.Core.Bool.{Bool, true, false}
use mathlib.Core.List.{List, [], ◌∷◌}
use Prim.Native.Nat.{ℕ, ◌+◌, ◌-◌, ◌*◌, ◌%◌, ◌^◌, ◌≤◌, ◌<◌, min}
use native.Mathlib.Nat.{add-zero, one-mul, mod-eq_of_lt}
use native.Mathlib.Numerals.{add-one}
use native.Mathlib.Omega.{arith}
use borrow.Author.Tests.{lt-ltb, le-ltb}
use lib.ListN.{length, get_or, drop, drop_of_length-le}
use lib.Pow.{pow-lt}
use lib.Seq.{drop-cons, drop-drop, get_or-drop}
use Rattle.laws.proofs.Countdown.{at_none, at_more}
use Rattle.fields.specs.Fields.{fitting, whole}
use Rattle.codecs.specs.Rows.{codes_in, rowed}
use Rattle.kinds.specs.Kind.{sevens}
use Rattle.information_forms.specs.Rows.{cut, bytes_of, row_in}
use Rattle.information_writer.specs.Internal.{row_at}

-- ---- a value

pub byte_here : (n : ℕ) (f : List ℕ) → get_or (drop n f) 0 0 ≡ get_or f n 0
byte_here n f = get_or-drop n f 0 0 ∙ ap (λ (i : ℕ). get_or f i 0) (add-zero n)

byte-on : (n : ℕ) (f : List ℕ) → get_or (drop 1 (drop n f)) 0 0 ≡ get_or f (n + 1) 0
byte-on n f = ap (λ (l : List ℕ). get_or l 0 0) (drop-drop 1 n f) ∙ byte_here (n + 1) f

byte_last : (n : ℕ) (f : List ℕ) → get_or (drop 1 (drop 1 (drop n f))) 0 0 ≡ get_or f (n + 2) 0
byte_last n f =
    let e : n + 1 + 1 ≡ n + 2 = omega arith in
    ap (λ (l : List ℕ). get_or (drop 1 l) 0 0) (drop-drop 1 n f) ∙ byte-on (n + 1) f ∙ ap (λ (i : ℕ). get_or f i 0) e

module _ (f : List ℕ) (at low : ℕ) (e₁ : low ≡ get_or f at 0) (h₁ : low < 256) where
  pub value-one : low ≡ whole 8 (codes_in 1 (drop at f))
  unfolding whole codes_in
  value-one = rw (byte_here at f, ← e₁) (omega arith)

  module _ (mid : ℕ) (e₂ : mid ≡ get_or f (at + 1) 0) (h₂ : mid < 256) where
    pub value-two : low + 256 * mid ≡ whole 8 (codes_in 2 (drop at f))
    unfolding whole codes_in
    value-two = rw (byte_here at f, byte-on at f, ← e₁, ← e₂) (omega arith)

    pub value-three :
        (high : ℕ) → high ≡ get_or f (at + 2) 0 → high < 256 → low + 256 * (mid + 256 * high) ≡ whole 8 (codes_in 3 (drop at f))
    unfolding whole codes_in
    value-three high e₃ h₃ = rw (byte_here at f, byte-on at f, byte_last at f, ← e₁, ← e₂, ← e₃) (omega arith)

pub value_none : (f : List ℕ) (at : ℕ) → 0 ≡ whole 8 (codes_in 0 (drop at f))
unfolding whole codes_in
value_none f at = refl

-- ---- a row

pub power : (w : ℕ) → w ≤ 24 → 1 * 2 ^ w % 2 ^ 64 ≡ 2 ^ w
power w h = rw one-mul (mod-eq_of_lt (pow-lt {i = w} {j = 64} (omega arith)))

module _ (ws f : List ℕ) (i p w v : ℕ) (some : i < length ws) (e : w ≡ min (get_or ws i 0) 24) (ev : v ≡ whole 8 (codes_in (bytes_of w) (drop p f))) where
  pub row-split : row_at (drop i ws) p f ≡ (w, v) ∷ row_at (drop (i + 1) ws) (p + bytes_of w) f
  unfolding cut row_in rowed
  row-split =
      ap (λ (l : List ℕ). row_at l p f) (drop-cons ws i 0 some)
      ∙ (rw (← e, ← ev, drop-drop (bytes_of w) p f, add-one i))

  pub row-bad : 2 ^ w ≤ v → fitting (row_at (drop i ws) p f) ≡ false
  unfolding fitting
  row-bad h = ap fitting row-split ∙ (rw (le-ltb v (2 ^ w) h))

  pub row-good : v < 2 ^ w → (all : Bool) → fitting (row_at (drop i ws) p f) ≡ all → fitting (row_at (drop (i + 1) ws) (p + bytes_of w) f) ≡ all
  unfolding fitting
  row-good h all inv =
      sym (ap fitting row-split ∙ (rw (lt-ltb v (2 ^ w) h))) ∙ inv

pub row-end : (ws f : List ℕ) (i p : ℕ) → length ws ≤ i → row_at (drop i ws) p f ≡ []
unfolding cut rowed
row-end ws f i p h = ap (λ (l : List ℕ). row_at l p f) (drop_of_length-le ws {i = i} h)

-- ---- codes

module _ (f : List ℕ) (i left : ℕ) (some : 0 < left) where
  codes-split : codes_in left (drop i f) ≡ get_or f i 0 ∷ codes_in (left - 1) (drop (i + 1) f)
  unfolding codes_in
  codes-split =
      at_more (λ (k : ℕ). codes_in k (drop i f)) left some
      ∙ ap₂ (λ (x : ℕ) (l : List ℕ). x ∷ codes_in (left - 1) l) (byte_here i f) (drop-drop 1 i f)

  pub codes-bad : (v : ℕ) → v ≡ get_or f i 0 → 128 ≤ v → sevens (codes_in left (drop i f)) ≡ false
  unfolding sevens
  codes-bad v e h = ap sevens codes-split ∙ (rw (← e, le-ltb v 128 h))

  pub codes-good :
      (v : ℕ) (all : Bool) → v ≡ get_or f i 0 → v < 128 → sevens (codes_in left (drop i f)) ≡ all
      → sevens (codes_in (left - 1) (drop (i + 1) f)) ≡ all
  unfolding sevens
  codes-good v all e h inv = sym (ap sevens codes-split ∙ (rw (← e, lt-ltb v 128 h))) ∙ inv

pub codes-end : (cs : List ℕ) (left : ℕ) → left ≤ 0 → sevens (codes_in left cs) ≡ true
unfolding codes_in sevens
codes-end cs left none = at_none (λ (k : ℕ). sevens (codes_in k cs)) left none
