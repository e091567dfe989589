-- A sheet in form has as many empty lines as entries: an entry ends in one, and no other line of it is empty or has a line's end within it.
-- So `texts::entries` is the number of entries. Assumes nothing.
use mathlib.Core.Path.{◌≡◌, ◌∙◌, refl, sym, ap}
use mathlib.Core.Bool.{Bool, true, false}
use mathlib.Core.List.{List, [], ◌∷◌, ◌++◌, append-nil, append_assoc}
use Prim.Native.Nat.{ℕ, zero, suc, ◌+◌, ◌/◌, ◌%◌, ◌≤◌}
use native.Mathlib.Omega.{arith}
use borrow.Author.Tests.{ne_eqb, leb-true}
use lib.Dec.{eqb, ltb, leb}
use lib.ListN.{length, length-append}
use Rattle.laws.specs.Pick.{pick, both}
use Rattle.laws.specs.Each.{Each, nil, and}
use Rattle.laws.proofs.Tests.{both_true}
use Rattle.laws.proofs.Eaches.{each_append}
use Rattle.texts.specs.Texts.{empty_from, empty_lines}
use Rattle.forms.specs.Tables.{TI, Descriptor}
use Rattle.text_lines.specs.Codes.{codes}
use Rattle.text_lines.specs.Lines.{digits_in, decimal, digit, hexed, letter, letters, number_line, language_of, language_line, page_line, word_bytes}
use Rattle.listing.specs.Lines.{kind_line, kind_ti, kind_li, language_lines, subtitle_lines, entry_lines, descriptor_line, descriptor_lines, descriptor_lines_of}
use Rattle.sheet_entry.specs.Entries.{Entry, HeadLine, stamp_name, head_values, spelled_by, head_lines, table_lines, empty_line, entry_text, mended_head}
use Rattle.day_sheet.specs.Entries.{sheet_text}
use Rattle.day_sheet.specs.Calls.{entries_of}
use Rattle.day_sheet.specs.Reading.{InForm}
use Rattle.listing_reader.proofs.Rowed.{number_some}
use Rattle.day_sheet.proofs.Exact.{read-written}
use Rattle.sheet_entry.specs.declared.Form.{Form}
use Rattle.sheet_entry.specs.declared.Form.TheVariants.{Old, New}

-- ---- bytes that end no line

abbrev Plain : ℕ → Type 0
Plain b = eqb b 10 ≡ false

unfoldable plain : List ℕ → Bool
plain [] = true
plain (b ∷ bytes) = both (pick (eqb b 10) false true) (plain bytes)

all_plain : (bytes : List ℕ) → plain bytes ≡ true → Each Plain bytes
unfolding plain
all_plain [] h = nil
all_plain (b ∷ bytes) h = let p = both_true (pick (eqb b 10) false true) (plain bytes) h in and (go (eqb b 10) p.0) (all_plain bytes p.1)
  where
    go : (t : Bool) → pick t false true ≡ true → t ≡ false
    go true e = sym e
    go false e = refl

digits_plain : (k n : ℕ) → Each Plain (digits_in k n)
unfolding digits_in
digits_plain zero n = nil
digits_plain (suc k) n = each_append (go (ltb n 10) (digits_plain k (n / 10))) (and (ne_eqb (48 + n % 10) 10 (λ e. omega arith)) nil)
  where
    go : (t : Bool) → Each Plain (digits_in k (n / 10)) → Each Plain (pick t [] (digits_in k (n / 10)))
    go true e = nil
    go false e = e

digit-plain : (n : ℕ) → Plain (digit n)
unfolding digit
digit-plain n = go (ltb n 10)
  where
    go : (t : Bool) → Plain (pick t (48 + n) (87 + n))
    go true = ne_eqb (48 + n) 10 (λ e. omega arith)
    go false = ne_eqb (87 + n) 10 (λ e. omega arith)

hexed-plain : (bytes : List ℕ) → Each Plain (hexed bytes)
unfolding hexed
hexed-plain [] = nil
hexed-plain (b ∷ bytes) = and (digit-plain (b / 16)) (and (digit-plain (b % 16)) (hexed-plain bytes))

letters-plain : (bytes : List ℕ) → letters bytes ≡ true → Each Plain bytes
unfolding letters
letters-plain [] h = nil
letters-plain (b ∷ bytes) h =
    let p = both_true (letter b) (letters bytes) h in
    let q = both_true (leb 97 b) (leb b 122) p.0 in
    let l = leb-true 97 b q.0 in
    and (ne_eqb b 10 (λ e. omega arith)) (letters-plain bytes p.1)

language_plain : (w : ℕ) → Each Plain (language_of w)
unfolding language_of
language_plain w = go (letters (word_bytes w)) refl
  where
    go : (t : Bool) → letters (word_bytes w) ≡ t → Each Plain (pick t (word_bytes w) (hexed (word_bytes w)))
    go true e = letters-plain (word_bytes w) e
    go false e = hexed-plain (word_bytes w)

-- ---- lines, each with a byte before its end

data Full : List ℕ → Type 0 where
  none : Full []
  line : {b : ℕ} {bytes rest : List ℕ} → Plain b → Each Plain bytes → Full rest → Full ((b ∷ (bytes ++ (10 ∷ []))) ++ rest)

full-then : {xs ys : List ℕ} → Full xs → Full ys → Full (xs ++ ys)
full-then none f = f
full-then {ys = ys} (line {b} {bytes} {rest} p e r) f =
    rw (append_assoc (b ∷ (bytes ++ (10 ∷ []))) rest ys) (line p e (full-then r f))

one_line : (b : ℕ) (bytes : List ℕ) → Plain b → Each Plain bytes → Full (b ∷ (bytes ++ (10 ∷ [])))
one_line b bytes p e =
    let f : Full ((b ∷ (bytes ++ (10 ∷ []))) ++ []) = line p e none in
    rw (append-nil (b ∷ (bytes ++ (10 ∷ [])))) at f

number-full : (b : ℕ) (bytes : List ℕ) (n : ℕ) → plain (b ∷ bytes) ≡ true → Full (number_line (b ∷ bytes) n)
unfolding number_line
number-full b bytes n h = go (all_plain (b ∷ bytes) h)
  where
    go : Each Plain (b ∷ bytes) → Full (number_line (b ∷ bytes) n)
    go (and p e) = one_line b (bytes ++ decimal n) p (each_append e (digits_plain 20 n))

language_full : (w : ℕ) → Full (language_line w)
unfolding language_line plain
language_full w = one_line 108 (codes "anguage=" ++ language_of w) refl (each_append (all_plain (codes "anguage=") refl) (language_plain w))

page-full : (w : ℕ) → Full (page_line w)
unfolding page_line plain
page-full w =
    one_line 112 (codes "age=" ++ hexed (word_bytes w)) refl (each_append (all_plain (codes "age=") refl) (hexed-plain (word_bytes w)))

kind_full : (kind : ℕ) → Full (kind_line kind)
unfolding kind_line plain
kind_full kind = go (eqb kind TI)
  where
    go : (t : Bool) → Full (pick t kind_ti kind_li)
    go true = one_line 107 (codes "ind=TI") refl (all_plain (codes "ind=TI") refl)
    go false = one_line 107 (codes "ind=LI") refl (all_plain (codes "ind=LI") refl)

-- ---- the lines of an entry

languages-full : (ws : List ℕ) → Full (language_lines ws)
unfolding language_lines
languages-full [] = none
languages-full (w ∷ ws) = full-then (language_full w) (languages-full ws)

subtitles-full : (ws : List ℕ) → Full (subtitle_lines ws)
unfolding subtitle_lines
subtitles-full [] = none
subtitles-full (l ∷ []) = language_full l
subtitles-full (l ∷ p ∷ ws) = full-then (full-then (language_full l) (page-full p)) (subtitles-full ws)

entries-full : (kind : ℕ) (ws : List ℕ) → Full (entry_lines kind ws)
unfolding entry_lines
entries-full kind ws = go (eqb kind TI)
  where
    go : (t : Bool) → Full (pick t (subtitle_lines ws) (language_lines ws))
    go true = subtitles-full ws
    go false = languages-full ws

descriptors_full : (kind : ℕ) (ds : List Descriptor) → Full (descriptor_lines kind ds)
unfolding descriptor_lines descriptor_line plain
descriptors_full kind [] = none
descriptors_full kind (d ∷ ds) =
    full-then (full-then (number-full 100 (codes "escriptor=") d.id refl) (entries-full kind d.words)) (descriptors_full kind ds)

-- ---- counted

-- up to a line's end, behind a byte that ends none
plain-passed : {bytes : List ℕ} (tail : List ℕ) → Each Plain bytes → empty_from ((bytes ++ (10 ∷ [])) ++ tail) false ≡ empty_from tail true
unfolding empty_from
plain-passed tail nil = omega arith
plain-passed tail (and p e) = rw p (let q = plain-passed tail e in omega arith)

-- a line that isn't empty, whatever stood before it
line-passed :
    {bytes : List ℕ} (b : ℕ) (tail : List ℕ) (ended : Bool) → Plain b → Each Plain bytes
    → empty_from ((b ∷ (bytes ++ (10 ∷ []))) ++ tail) ended ≡ empty_from tail true
unfolding empty_from
line-passed b tail ended p e = rw p (let q = plain-passed tail e in omega arith)

full-passed : {lines : List ℕ} (tail : List ℕ) → Full lines → empty_from (lines ++ tail) true ≡ empty_from tail true
full-passed tail none = refl
full-passed tail (line {b} {bytes} {rest} p e f) =
    ap (λ (x : List ℕ). empty_from x true) (append_assoc (b ∷ (bytes ++ (10 ∷ []))) rest tail)
    ∙ line-passed b (rest ++ tail) true p e
    ∙ full-passed tail f

full-first : {lines : List ℕ} (tail : List ℕ) (ended : Bool) → Full lines → 1 ≤ length lines → empty_from (lines ++ tail) ended ≡ empty_from tail true
full-first tail ended none h = absurd (omega arith)
full-first tail ended (line {b} {bytes} {rest} p e f) h =
    ap (λ (x : List ℕ). empty_from x ended) (append_assoc (b ∷ (bytes ++ (10 ∷ []))) rest tail)
    ∙ line-passed b (rest ++ tail) ended p e
    ∙ full-passed tail f

-- a head's lines are
abbrev FullLine : HeadLine → Type 0
FullLine l = (v : ℕ) → Full (l.text v)

spelled-full : {ls : List HeadLine} → Each FullLine ls → (vs : List ℕ) → Full (spelled_by ls vs)
unfolding spelled_by
spelled-full nil vs = none
spelled-full (and f e) [] = none
spelled-full (and f e) (v ∷ vs) = full-then (f v) (spelled-full e vs)

mended-full : (form : Form) → FullLine (mended_head form)
unfolding plain
mended-full Old v = none
mended-full New v = number-full 109 (codes "ended=") v refl

module _ (form : Form) where
  head-full : (e : Entry) → Full (head_lines form e)
  unfolding head_lines plain
  head-full e =
      spelled-full
      (and (λ v. number-full 115 (codes "tamp=") v refl)
      (and (mended-full form)
      (and kind_full (and (λ v. number-full 110 (codes "etwork=") v refl) (and (λ v. number-full 98 (codes "lock=") v refl) nil)))))
      (head_values e)

  head_some : (e : Entry) → 1 ≤ length (head_lines form e)
  unfolding head_lines spelled_by
  head_some e = rw length-append (omega (arith, number_some stamp_name e.stamp))

  table-full : (e : Entry) → Full (table_lines e)
  unfolding descriptor_lines_of
  table-full e = descriptors_full e.table.kind e.table.descriptors

  -- one for each entry, at its end
  entry-passed : (e : Entry) (tail : List ℕ) (ended : Bool) → empty_from (entry_text form e ++ tail) ended ≡ 1 + empty_from tail true
  unfolding entry_text
  entry-passed e tail ended =
      let split : (head_lines form e ++ (table_lines e ++ empty_line)) ++ tail ≡ (head_lines form e ++ table_lines e) ++ (10 ∷ tail) =
      append_assoc (head_lines form e) (table_lines e ++ empty_line) tail
      ∙ ap (λ (x : List ℕ). head_lines form e ++ x) (append_assoc (table_lines e) empty_line tail)
      ∙ sym (append_assoc (head_lines form e) (table_lines e) (10 ∷ tail)) in
      ap (λ (x : List ℕ). empty_from x ended) split
      ∙ full-first (10 ∷ tail) ended (full-then (head-full e) (table-full e)) (rw length-append (omega (arith, head_some e)))
      ∙ (unfold empty_from in refl)

  text-passed : (es : List Entry) (ended : Bool) → empty_from (sheet_text form es) ended ≡ length es
  unfolding sheet_text empty_from
  text-passed [] ended = refl
  text-passed (e ∷ es) ended = entry-passed e (sheet_text form es) ended ∙ (let q = text-passed es true in omega arith)

  -- the empty lines of a sheet in form are as many as its entries
  pub counts-entries : (sheet : List ℕ) → InForm form sheet → empty_lines sheet ≡ length (entries_of form sheet)
  counts-entries sheet f = ap empty_lines (read-written form sheet 0 f).0 ∙ text-passed (entries_of form sheet) false
