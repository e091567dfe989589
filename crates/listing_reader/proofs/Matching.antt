-- Texts and numbers at a place of a sheet, byte by byte. Assumes nothing.
use mathlib.Core.Path.{◌≡◌, ◌∙◌, refl, sym, ap}
use mathlib.Core.Bool.{Bool, true, false}
use mathlib.Core.List.{List, [], ◌∷◌, ◌++◌, append_assoc}
use Prim.Native.Nat.{ℕ, zero, suc, ◌+◌, ◌*◌, ◌-◌, ◌^◌, ◌≤◌, ◌<◌}
use native.Mathlib.Nat.{zero-add, add_assoc}
use native.Mathlib.Omega.{arith}
use Rattle.std.proofs.Common.{◌⊎◌, inl, inr}
use borrow.Author.Tests.{le-leb, lt-leb, leb-true, ltb-true, ltb-false, ne_eqb}
use lib.Dec.{leb, ltb, eqb, T}
use lib.ListN.{length, get_or, take, drop, replicate, length-replicate, length-append, drop_of_length-le, get_or-eq_default}
use lib.Seq.{drop-cons, drop-drop, get_or-drop, take-append_seam}
use Rattle.laws.proofs.Whole.{all-at}
use Rattle.laws.proofs.Tests.{both_false, both_assoc}
use Rattle.laws.specs.Pick.{both}
use Rattle.laws.proofs.Lists.{sets-front}
use Rattle.texts.specs.Texts.{begins_with}
use Rattle.forms.specs.Form.{word_at}
use Rattle.text_lines.specs.Putting.{Put, within}
use Rattle.text_lines.specs.Lines.{decimal, number_line, language_line, page_line}
use Rattle.text_lines.proofs.Printed.{put-there}
use Rattle.listing.specs.Lines.{kind_ti, kind_li, kind_line}
use Rattle.listing_reader.proofs.Rowed.{number_some}
use Rattle.listing_reader.specs.Lines.{line_of, number_from, digits_most, hex_word, language_in, number_at, kind_at, language_at, page_at}

-- ---- digits at a place

-- ten digits are a number below 10 to the tenth
pub powers : (j : ℕ) → j < 11 → 10 ^ j ≤ 10000000000
powers j h = leb-true (10 ^ j) 10000000000 (is_true (leb (10 ^ j) 10000000000) (all-at (λ (k : ℕ). leb (10 ^ k) 10000000000) 11 tt j h))
  where
    is_true : (b : Bool) → T b → b ≡ true
    is_true true t = refl
    is_true false t = absurd t

pub digit-more : (j n b : ℕ) → n < 10 ^ j → b ≤ 57 → n * 10 + (b - 48) < 10 ^ (j + 1)
digit-more j n b h k = let e : j + 1 ≡ suc j = omega arith in rw e (omega arith)

module _ (sheet : List ℕ) (from seen n : ℕ) where
  number-out : length sheet ≤ from + seen → number_from (10 - seen) n (drop (from + seen) sheet) ≡ n
  unfolding number_from
  number-out h = rw (drop_of_length-le sheet h) (ends (10 - seen))
    where
      ends : (k : ℕ) → number_from k n [] ≡ n
      ends zero = refl
      ends (suc k) = refl

  module _ (few : seen < 10) (there : from + seen < length sheet) where
    left-of : 10 - seen ≡ suc (10 - (seen + 1))
    left-of = omega arith

    number-below : get_or sheet (from + seen) 0 < 48 → number_from (10 - seen) n (drop (from + seen) sheet) ≡ n
    unfolding number_from
    number-below h = rw (left-of, drop-cons sheet (from + seen) 0 there, lt-leb 48 (get_or sheet (from + seen) 0) h)

    number-above : 57 < get_or sheet (from + seen) 0 → number_from (10 - seen) n (drop (from + seen) sheet) ≡ n
    unfolding number_from
    number-above h =
        rw (left-of, drop-cons sheet (from + seen) 0 there, lt-leb (get_or sheet (from + seen) 0) 57 h, both_false (leb 48 (get_or sheet (from + seen) 0)))

    no-digit :
        {b : ℕ} → b ≡ get_or sheet (from + seen) 0 → (b < 48) ⊎ ((48 ≤ b) × (57 < b))
        → number_from (10 - seen) n (drop (from + seen) sheet) ≡ n
    no-digit e (inl low) = number-below (omega (arith, e))
    no-digit e (inr high) = number-above (omega (arith, e, high.1))

    number-on :
        {b : ℕ} → b ≡ get_or sheet (from + seen) 0 → 48 ≤ b → b ≤ 57
        → number_from (10 - (seen + 1)) (n * 10 + (b - 48)) (drop (from + (seen + 1)) sheet)
        ≡ number_from (10 - seen) n (drop (from + seen) sheet)
    unfolding number_from
    number-on {b} e l m =
        let q : from + (seen + 1) ≡ suc (from + seen) = omega arith in
        rw (left-of, q, drop-cons sheet (from + seen) 0 there, ← e, le-leb 48 b l, le-leb b 57 m)

-- where no digit stands, past the end too
pub number-ends :
    (sheet : List ℕ) (from seen n : ℕ) {b : ℕ} → seen < 10 → b ≡ get_or sheet (from + seen) 0 → (b < 48) ⊎ ((48 ≤ b) × (57 < b))
    → number_from (10 - seen) n (drop (from + seen) sheet) ≡ n
number-ends sheet from seen n few e h = go (ltb (from + seen) (length sheet)) refl
  where
    go : (t : Bool) → ltb (from + seen) (length sheet) ≡ t → number_from (10 - seen) n (drop (from + seen) sheet) ≡ n
    go true k = no-digit sheet from seen n few (ltb-true _ _ k) e h
    go false k = number-out sheet from seen n (ltb-false _ _ k)

-- where one stands, which is not past the end
pub number-goes :
    (sheet : List ℕ) (from seen n : ℕ) {b : ℕ} → seen < 10 → b ≡ get_or sheet (from + seen) 0 → 48 ≤ b → b ≤ 57
    → number_from (10 - (seen + 1)) (n * 10 + (b - 48)) (drop (from + (seen + 1)) sheet) ≡ number_from (10 - seen) n (drop (from + seen) sheet)
number-goes sheet from seen n {b} few e low high = go (ltb (from + seen) (length sheet)) refl
  where
    go :
        (t : Bool) → ltb (from + seen) (length sheet) ≡ t
        → number_from (10 - (seen + 1)) (n * 10 + (b - 48)) (drop (from + (seen + 1)) sheet) ≡ number_from (10 - seen) n (drop (from + seen) sheet)
    go true k = number-on sheet from seen n few (ltb-true _ _ k) e low high
    go false k = absurd (omega (arith, e, low, get_or-eq_default sheet 0 (ltb-false _ _ k)))

pub number-done : (n seen : ℕ) (bytes : List ℕ) → 10 ≤ seen → number_from (10 - seen) n bytes ≡ n
unfolding number_from
number-done n seen bytes h = let e : 10 - seen ≡ 0 = omega arith in rw e

-- ---- words at a place

pub word-place : (sheet : List ℕ) (at i : ℕ) → word_at sheet (at + i) ≡ word_at (drop at sheet) i
word-place sheet at i = simp (get_or-drop, add_assoc)

pub hex_place : (sheet : List ℕ) (at i : ℕ) → hex_word sheet (at + i) ≡ hex_word (drop at sheet) i
unfolding hex_word
hex_place sheet at i = simp (get_or-drop, add_assoc)

pub language_place : (sheet : List ℕ) (at i : ℕ) → language_in sheet (at + i) ≡ language_in (drop at sheet) i
unfolding language_in
language_place sheet at i =
    rw (get_or-drop at sheet (i + 3) 0, ← add_assoc at i 3, hex_place sheet at i, word-place sheet at i)

-- ---- a line that is spelled into an array of k bytes

pub spelled_in :
    (k : ℕ) {xs text : List ℕ} {r : ℕ} → Put (replicate k 0) 0 (within 0 xs) text r → r ≤ k
    → (take r text ≡ xs) × (r ≡ length (take r text)) × (length (take r text) ≤ k)
spelled_in k {xs} {text} {r} p h =
    let q = put-there (omega arith) p in
    let blank : List ℕ = replicate k 0 in
    let few : length xs ≤ length blank = rw length-replicate (omega (arith, q.moved)) in
    let long : r ≡ length xs = q.moved ∙ zero-add (length xs) in
    let whole : take r text ≡ xs =
    (rw (q.stored, long, sets-front blank xs few) (take-append_seam xs (drop (length xs) blank))) in
    (whole, rw whole long, rw whole (omega arith))

-- a line read is the spelling of its value, where that stands there

module _ (bytes text : List ℕ) (w : ℕ) where
  pub language-line :
      w ≡ language_in bytes 9 → text ≡ language_line w → line_of (begins_with text bytes) w text ≡ language_at bytes
  unfolding language_at
  language-line e t = rw (t, ← e)

  pub page-line :
      w ≡ hex_word bytes 5 → text ≡ page_line w → line_of (begins_with text bytes) w text ≡ page_at bytes
  unfolding page_at
  page-line e t = rw (t, ← e)

pub kind_ti_lem : (bytes : List ℕ) → begins_with kind_ti bytes ≡ true → line_of true 8 kind_ti ≡ kind_at bytes
unfolding kind_at kind_line
kind_ti_lem bytes e = rw (e, e)

pub kind_li_lem : (bytes : List ℕ) → begins_with kind_ti bytes ≡ false → line_of (begins_with kind_li bytes) 7 kind_li ≡ kind_at bytes
unfolding kind_at kind_line
kind_li_lem bytes e = rw e

-- ---- a name, and a number behind it

pub begins-none : (xs : List ℕ) → begins_with xs [] ≡ eqb (length xs) 0
unfolding begins_with
begins-none [] = refl
begins-none (x ∷ xs) = sym (ne_eqb (length (x ∷ xs)) 0 (omega arith))

begins-both : (xs ys bytes : List ℕ) → begins_with (xs ++ ys) bytes ≡ both (begins_with xs bytes) (begins_with ys (drop (length xs) bytes))
unfolding begins_with
begins-both [] ys bytes = refl
begins-both (x ∷ xs) ys [] = refl
begins-both (x ∷ xs) ys (b ∷ bytes) = rw (begins-both xs ys bytes) (both_assoc (eqb b x) (begins_with xs bytes) _)

line-split : (name : List ℕ) (n : ℕ) → number_line name n ≡ name ++ number_line [] n
unfolding number_line
line-split name n = append_assoc name (decimal n) (10 ∷ [])

module _ (sheet name : List ℕ) (at most : ℕ) where
  abbrev here : List ℕ
  here = drop at sheet

  pub number-nowhere : length sheet ≤ at → line_of false 0 [] ≡ number_at name most (drop at sheet)
  unfolding number_at number_from
  number-nowhere h =
      let none : begins_with (number_line name 0) [] ≡ false =
      begins-none (number_line name 0) ∙ ne_eqb (length (number_line name 0)) 0 (λ z. omega (arith, number_some name 0)) in
      let zero-there : number_from digits_most 0 (drop (length name) []) ≡ 0 = ap (number_from digits_most 0) (drop_of_length-le [] {i = length name} (omega arith)) in
      rw (drop_of_length-le sheet h, zero-there, none, both_false (leb 0 most))

  module _ (w : ℕ) (reads : w ≡ number_from digits_most 0 (drop (at + length name) sheet)) where
    value : w ≡ number_from digits_most 0 (drop (length name) (drop at sheet))
    value = reads ∙ ap (number_from digits_most 0) (sym (drop-drop (length name) at sheet))

    -- a number past its field
    pub number_past : most < w → line_of false w [] ≡ number_at name most (drop at sheet)
    unfolding number_at
    number_past h = rw (← value, lt-leb w most h)

    module _ (fits : w ≤ most) where
      line-by :
          (b : Bool) → begins_with (number_line name w) (drop at sheet) ≡ b → line_of b w (number_line name w) ≡ number_at name most (drop at sheet)
      unfolding number_at
      line-by b e = rw (← value, le-leb w most fits, e)

      pub number-unnamed : begins_with name (drop at sheet) ≡ false → line_of false w [] ≡ number_at name most (drop at sheet)
      number-unnamed e = line-by false (ap (λ (l : List ℕ). begins_with l (drop at sheet)) (line-split name w) ∙ begins-both name (number_line [] w) (drop at sheet) ∙ (rw e))

      module _ (named : begins_with name (drop at sheet) ≡ true) {text : List ℕ} (spells : text ≡ number_line [] w) where
        begins-so : begins_with (number_line name w) (drop at sheet) ≡ begins_with text (drop (at + length name) sheet)
        begins-so =
            ap (λ (l : List ℕ). begins_with l (drop at sheet)) (line-split name w) ∙ begins-both name (number_line [] w) (drop at sheet)
            ∙ (rw (named, spells, drop-drop (length name) at sheet))

        pub number-unspelled : begins_with text (drop (at + length name) sheet) ≡ false → line_of false w [] ≡ number_at name most (drop at sheet)
        number-unspelled e = line-by false (begins-so ∙ e)

        pub number_spelled :
            begins_with text (drop (at + length name) sheet) ≡ true
            → record { value = w; long = length name + length text } ≡ number_at name most (drop at sheet)
        number_spelled e =
            let l : length name + length text ≡ length (number_line name w) =
            sym (ap length (line-split name w) ∙ length-append name (number_line [] w) ∙ (rw (← spells))) in
            ap (λ (n : ℕ). record { value = w; long = n }) l ∙ line-by true (begins-so ∙ e)
