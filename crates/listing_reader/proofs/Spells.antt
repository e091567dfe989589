-- A line is read exactly where it is spelled: what is read spells those bytes, and what is spelled reads back. Assumes nothing.
use mathlib.Core.Path.{◌≡◌, ◌∙◌, refl, ap}
use mathlib.Core.Bool.{Bool, true, false}
use mathlib.Core.List.{List, [], ◌∷◌, ◌++◌, append_assoc}
use Prim.Native.Nat.{ℕ, zero, suc, ◌+◌, ◌*◌, ◌-◌, ◌/◌, ◌%◌, ◌^◌, ◌≤◌, ◌<◌}
use native.Mathlib.Omega.{arith}
use borrow.Author.Tests.{le-leb, leb-true, eq-eqb, eqb-true}
use lib.Dec.{eqb, ltb, leb, T}
use lib.ListN.{length, get_or, drop}
use lib.Seq.{drop-append_seam}
use Rattle.laws.specs.Pick.{pick, both}
use Rattle.laws.proofs.Whole.{all-at}
use Rattle.laws.proofs.Tests.{both_true}
use Rattle.fields.specs.Fields.{whole}
use Rattle.texts.specs.Texts.{begins_with}
use Rattle.forms.specs.Tables.{TI, LI, known}
use Rattle.text_lines.specs.Lines.{digits_in, decimal, digit, hexed, letters, number_line, language_name, language_of, language_line, page_line, word_bytes}
use Rattle.text_lines.proofs.Decimals.{valued, decimal-valued, digits_few}
use Rattle.listing.specs.Lines.{kind_ti, kind_line}
use Rattle.listing_reader.specs.declared.lines.Line.{Line}
use Rattle.listing_reader.specs.Lines.{line_of, is_digit, number_from, digits_most, number_at, kind_at, nibble_of, hex_word, language_in, language_at, page_at}

-- ---- what begins with a text

pub begins-append : (xs rest : List ℕ) → begins_with xs (xs ++ rest) ≡ true
unfolding begins_with
begins-append [] rest = refl
begins-append (x ∷ xs) rest = rw (eq-eqb x x refl) (begins-append xs rest)

pub begins_with_lem : (xs bytes : List ℕ) → begins_with xs bytes ≡ true → bytes ≡ xs ++ drop (length xs) bytes
unfolding begins_with
begins_with_lem [] bytes h = refl
begins_with_lem (x ∷ xs) [] h = let z : ◌≡◌ {A = ℕ} 0 1 = cc in absurd (omega arith)
begins_with_lem (x ∷ xs) (b ∷ bytes) h =
    let p = both_true (eqb b x) (begins_with xs bytes) h in
    let e : b ≡ x = eqb-true b x p.0 in
    let more = begins_with_lem xs bytes p.1 in
    rw e (ap (λ (l : List ℕ). x ∷ l) more)

-- what a line that is in form tells: its text stands at the front of the bytes
pub record Spelled (text : List ℕ) (l : Line) (bytes : List ℕ) : Type 0 where
  pub there : bytes ≡ text ++ drop l.long bytes
  pub size : l.long ≡ length text

pub in_form_lem :
    (ok : Bool) (v : ℕ) (text bytes : List ℕ) → (ok ≡ true → begins_with text bytes ≡ true) → ((line_of ok v text).long ≡ 0 → ⊥)
    → (ok ≡ true) × Spelled text (line_of ok v text) bytes
in_form_lem true v text bytes s h = (refl, record { there = begins_with_lem text bytes (s refl); size = refl })
in_form_lem false v text bytes s h = absurd (h refl)

-- ---- numbers

pub number-sound :
    (name : List ℕ) (most : ℕ) (bytes : List ℕ) → ((number_at name most bytes).long ≡ 0 → ⊥)
    → ((number_at name most bytes).value ≤ most) × Spelled (number_line name (number_at name most bytes).value) (number_at name most bytes) bytes
unfolding number_at
number-sound name most bytes h =
    let n = number_from digits_most 0 (drop (length name) bytes) in
    let f = in_form_lem _ n (number_line name n) bytes (λ e. (both_true (leb n most) _ e).1) h in
    (leb-true n most (both_true (leb n most) _ f.0).0, f.1)

digit_is : (n : ℕ) → is_digit (48 + n % 10) ≡ true
digit_is n = rw (le-leb 48 (48 + n % 10) (omega arith), le-leb (48 + n % 10) 57 (omega arith))

-- every one is a digit
unfoldable digital : List ℕ → Bool
digital [] = true
digital (b ∷ bs) = both (is_digit b) (digital bs)

digital-append : (xs ys : List ℕ) → digital xs ≡ true → digital ys ≡ true → digital (xs ++ ys) ≡ true
unfolding digital
digital-append [] ys a b = b
digital-append (x ∷ xs) ys a b =
    let p = both_true (is_digit x) (digital xs) a in rw p.0 (digital-append xs ys p.1 b)

digits_digital : (k n : ℕ) → digital (digits_in k n) ≡ true
unfolding digits_in digital
digits_digital zero n = refl
digits_digital (suc k) n = go (ltb n 10) (digits_digital k (n / 10))
  where
    one : digital ((48 + n % 10) ∷ []) ≡ true
    one = rw (digit_is n)

    go : (t : Bool) → digital (digits_in k (n / 10)) ≡ true → digital (pick t [] (digits_in k (n / 10)) ++ ((48 + n % 10) ∷ [])) ≡ true
    go true tenth = one
    go false tenth = digital-append (digits_in k (n / 10)) ((48 + n % 10) ∷ []) tenth one

-- digits are read up to the byte that is none
read_digits :
    (k a : ℕ) (ds rest : List ℕ) (e : ℕ) → digital ds ≡ true → length ds ≤ k → is_digit e ≡ false
    → number_from k a (ds ++ (e ∷ rest)) ≡ valued a ds
unfolding digital number_from valued
read_digits zero a [] rest e d l n = refl
read_digits (suc k) a [] rest e d l n = rw n
read_digits zero a (b ∷ ds) rest e d l n = absurd (omega arith)
read_digits (suc k) a (b ∷ ds) rest e d l n =
    let p = both_true (is_digit b) (digital ds) d in
    rw p.0 (read_digits k (a * 10 + (b - 48)) ds rest e p.1 (omega arith) n)

-- a number is read back from its digits, up to the byte behind them
pub digits_back : (n e : ℕ) (rest : List ℕ) → n < 10 ^ 10 → is_digit e ≡ false → number_from digits_most 0 (decimal n ++ (e ∷ rest)) ≡ n
digits_back n e rest h d =
    read_digits 10 0 (decimal n) rest e (digits_digital 20 n) (digits_few 20 9 n h) d ∙ decimal-valued n (omega arith)

pub number-back :
    (name : List ℕ) (most n : ℕ) (rest : List ℕ) → n ≤ most → most < 10 ^ 10
    → number_at name most (number_line name n ++ rest) ≡ line_of true n (number_line name n)
unfolding number_at number_line
number-back name most n rest h m =
    let ds = decimal n in
    let e : drop (length name) (((name ++ ds) ++ (10 ∷ [])) ++ rest) ≡ ds ++ (10 ∷ rest) =
    rw (append_assoc (name ++ ds) (10 ∷ []) rest, append_assoc name ds (10 ∷ rest)) (drop-append_seam name (ds ++ (10 ∷ rest))) in
    let v : number_from digits_most 0 (drop (length name) (((name ++ ds) ++ (10 ∷ [])) ++ rest)) ≡ n =
    ap (number_from digits_most 0) e ∙ digits_back n 10 rest (omega arith) refl in
    rw (v, le-leb n most h, begins-append ((name ++ ds) ++ (10 ∷ [])) rest)

-- ---- kinds

pub kind_sound :
    (bytes : List ℕ) → ((kind_at bytes).long ≡ 0 → ⊥) → (known (kind_at bytes).value ≡ true) × Spelled (kind_line (kind_at bytes).value) (kind_at bytes) bytes
unfolding kind_at
kind_sound bytes h =
    let kind = pick (begins_with kind_ti bytes) TI LI in
    let f = in_form_lem _ kind (kind_line kind) bytes (λ e. e) h in
    (is_known (begins_with kind_ti bytes), f.1)
  where
    is_known : (b : Bool) → known (pick b TI LI) ≡ true
    is_known true = refl
    is_known false = refl

pub kind_back_ti : (rest : List ℕ) → kind_at (kind_line TI ++ rest) ≡ line_of true TI (kind_line TI)
unfolding kind_at kind_line begins_with
kind_back_ti rest = refl

pub kind_back_li : (rest : List ℕ) → kind_at (kind_line LI ++ rest) ≡ line_of true LI (kind_line LI)
unfolding kind_at kind_line begins_with
kind_back_li rest = refl

-- ---- words

pub page-sound : (bytes : List ℕ) → ((page_at bytes).long ≡ 0 → ⊥) → ((page_at bytes).value < 2 ^ 24) × Spelled (page_line (page_at bytes).value) (page_at bytes) bytes
unfolding page_at hex_word
page-sound bytes h =
    let w = hex_word bytes 5 in
    (omega arith, (in_form_lem _ w (page_line w) bytes (λ e. e) h).1)

nibble-digit : (n : ℕ) → n < 16 → nibble_of (digit n) ≡ n
nibble-digit n h = eqb-true (nibble_of (digit n)) n (is_true _ (all-at (λ (k : ℕ). eqb (nibble_of (digit k)) k) 16 (unfold nibble_of digit in tt) n h))
  where
    is_true : (b : Bool) → T b → b ≡ true
    is_true true t = refl
    is_true false t = absurd t

digit-ends_no_line : (n : ℕ) → n < 16 → eqb (digit n) 10 ≡ false
digit-ends_no_line n h = is_false _ (all-at (λ (k : ℕ). pick (eqb (digit k) 10) false true) 16 (unfold digit in tt) n h)
  where
    is_false : (b : Bool) → T (pick b false true) → b ≡ false
    is_false true t = absurd t
    is_false false t = refl

-- a byte from its two digits
byte-back : (b : ℕ) → b < 256 → nibble_of (digit (b / 16)) * 16 + nibble_of (digit (b % 16)) ≡ b
byte-back b h = rw (nibble-digit (b / 16) (omega arith), nibble-digit (b % 16) (omega arith)) (omega arith)

word_of : (w : ℕ) → w < 2 ^ 24 → (w / 256 / 256 % 256 * 256 + w / 256 % 256) * 256 + w % 256 ≡ w
word_of w h = omega arith

page-value : (w : ℕ) (rest : List ℕ) → w < 2 ^ 24 → hex_word (page_line w ++ rest) 5 ≡ w
unfolding hex_word page_line hexed word_bytes
page-value w rest h =
    rw (byte-back (w / 256 / 256 % 256) (omega arith), byte-back (w / 256 % 256) (omega arith), byte-back (w % 256) (omega arith), word_of w h) (omega arith)

pub page-back : (w : ℕ) (rest : List ℕ) → w < 2 ^ 24 → page_at (page_line w ++ rest) ≡ line_of true w (page_line w)
unfolding page_at
page-back w rest h = rw (page-value w rest h, begins-append (page_line w) rest)

pub language_sound :
    (bytes : List ℕ) → ((language_at bytes).long ≡ 0 → ⊥)
    → ((language_at bytes).value < 2 ^ 24) × Spelled (language_line (language_at bytes).value) (language_at bytes) bytes
unfolding language_at
language_sound bytes h =
    let w = language_in bytes 9 in
    (language-fits bytes, (in_form_lem _ w (language_line w) bytes (λ e. e) h).1)
  where
    language_fits : (bs : List ℕ) → language_in bs 9 < 2 ^ 24
    language-fits bs = unfold language_in hex_word whole in go (eqb (get_or bs 12 0) 10) (get_or bs 11 0) (get_or bs 10 0) (get_or bs 9 0) _
      where
        go : (b : Bool) (x y z m : ℕ) → pick b (((0 * 2 ^ 8 + z % 2 ^ 8) * 2 ^ 8 + y % 2 ^ 8) * 2 ^ 8 + x % 2 ^ 8) (m % 16777216) < 2 ^ 24
        go true x y z m = omega arith
        go false x y z m = omega arith

three :
    (a b c : ℕ) → a < 256 → b < 256 → c < 256
    → ((0 * 2 ^ 8 + a % 2 ^ 8) * 2 ^ 8 + b % 2 ^ 8) * 2 ^ 8 + c % 2 ^ 8 ≡ (a * 256 + b) * 256 + c
three a b c l m n = omega arith

language_value : (w : ℕ) (rest : List ℕ) → w < 2 ^ 24 → language_in (language_line w ++ rest) 9 ≡ w
unfolding language_in language_line language_of hex_word hexed word_bytes whole
language_value w rest h = go (letters (w / 256 / 256 % 256 ∷ w / 256 % 256 ∷ w % 256 ∷ []))
  where
    go :
        (b : Bool)
        → language_in (language_name ++ pick b (w / 256 / 256 % 256 ∷ w / 256 % 256 ∷ w % 256 ∷ []) (hexed (word_bytes w)) ++ (10 ∷ []) ++ rest) 9 ≡ w
    go true =
        three (w / 256 / 256 % 256) (w / 256 % 256) (w % 256) (omega arith) (omega arith) (omega arith) ∙ word_of w h
    go false =
        rw (
          digit-ends_no_line (w / 256 % 256 % 16) (omega arith),
          byte-back (w / 256 / 256 % 256) (omega arith),
          byte-back (w / 256 % 256) (omega arith),
          byte-back (w % 256) (omega arith),
          word_of w h,
        )
        (omega arith)

pub language_back : (w : ℕ) (rest : List ℕ) → w < 2 ^ 24 → language_at (language_line w ++ rest) ≡ line_of true w (language_line w)
unfolding language_at
language_back w rest h = rw (language_value w rest h, begins-append (language_line w) rest)
