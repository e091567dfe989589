-- The lines of a form, an entry or a descriptor at a time. Assumes nothing.
use mathlib.Core.Path.{◌≡◌, ◌∙◌, refl, ap, ap₂}
use mathlib.Core.Bool.{Bool, true, false}
use mathlib.Core.List.{List, [], ◌∷◌, ◌++◌, append-nil}
use Prim.Native.Nat.{ℕ, suc, ◌+◌, ◌*◌, ◌≤◌, ◌<◌}
use native.Mathlib.Nat.{add-zero, mul-one, mul-zero}
use native.Mathlib.Omega.{arith}
use borrow.Author.Tests.{eq-eqb, ne_eqb}
use lib.Dec.{eqb}
use lib.ListN.{get_or, drop}
use lib.Seq.{drop-drop, get_or-drop}
use Rattle.laws.specs.Pick.{pick}
use Rattle.laws.proofs.Countdown.{at_none}
use Rattle.forms.specs.Tables.{TI, per}
use Rattle.forms.specs.Form.{spelled, word_at, words_in, descriptors_in, table_in}
use Rattle.forms.proofs.Forms.{in_on, two_bytes}
use Rattle.text_lines.specs.Lines.{word_bytes, number_line, language_line, page_line}
use Rattle.listing.specs.Lines.{kind_line, block_name, network_name, mended_name, joined_line, head_lines, language_lines, subtitle_lines, entry_lines, descriptor_line, descriptor_lines}

-- a word's bytes in a line are those that a table's form has of it
pub word-spelled : (w : ℕ) → spelled (w ∷ []) ≡ word_bytes w
unfolding spelled word_bytes
word-spelled w = refl

-- ---- entries

module _ (kind i w : ℕ) (f : List ℕ) (e : w ≡ word_at f i) where
  -- an LI entry is one line
  pub entry-li : (kind ≡ TI → ⊥) → language_line w ≡ entry_lines kind (words_in (per kind) (drop i f))
  unfolding entry_lines per words_in language_lines
  entry-li h =
      rw (ne_eqb kind TI h, append-nil, get_or-drop i f 2 0, get_or-drop i f 1 0, get_or-drop i f 0 0, add-zero i) (ap language_line e)

  -- a TI entry is two
  pub entry-ti :
      (p : ℕ) → p ≡ word_at f (i + 3) → kind ≡ TI → language_line w ++ page_line p ≡ entry_lines kind (words_in (per kind) (drop i f))
  unfolding entry_lines per words_in subtitle_lines
  entry-ti p e' h =
      rw (
        eq-eqb kind TI h,
        append-nil,
        drop-drop 3 i f,
        get_or-drop i f 2 0,
        get_or-drop i f 1 0,
        get_or-drop i f 0 0,
        add-zero i,
        get_or-drop (i + 3) f 2 0,
        get_or-drop (i + 3) f 1 0,
        get_or-drop (i + 3) f 0 0,
        add-zero (i + 3),
      )
      (ap₂ (λ (a b : ℕ). language_line a ++ page_line b) e e')

abbrev lines_by : Bool → List ℕ → List ℕ
lines_by paged ws = pick paged (subtitle_lines ws) (language_lines ws)

entries-step :
    (b : Bool) (k : ℕ) (g : List ℕ)
    → let each : ℕ = pick b 2 1 in
    lines_by b (words_in (each * suc k) g) ≡ lines_by b (words_in each g) ++ lines_by b (words_in (each * k) (drop (3 * each) g))
unfolding words_in subtitle_lines language_lines
entries-step true k g =
    let e : 2 * suc k ≡ suc (suc (2 * k)) = omega arith in
    rw (e, append-nil, drop-drop 3 3 g)
entries-step false k g =
    let e : 1 * suc k ≡ suc (1 * k) = omega arith in
    rw (e, append-nil)

-- one entry on
pub entries-on :
    (kind left others i each : ℕ) (f : List ℕ) → left ≡ suc others → each ≡ per kind * 1
    → entry_lines kind (words_in (per kind * left) (drop i f))
    ≡ entry_lines kind (words_in (per kind) (drop i f)) ++ entry_lines kind (words_in (per kind * others) (drop (i + 3 * each) f))
unfolding entry_lines per
entries-on kind left others i each f h e =
    ap (λ (n : ℕ). entry_lines kind (words_in (per kind * n) (drop i f))) h ∙ entries-step (eqb kind TI) others (drop i f)
    ∙ (rw (e, mul-one, drop-drop))

pub entries-end : (kind left i : ℕ) (f : List ℕ) → left ≤ 0 → entry_lines kind (words_in (per kind * left) (drop i f)) ≡ []
unfolding entry_lines words_in subtitle_lines language_lines
entries-end kind left i f h =
    at_none (λ (n : ℕ). entry_lines kind (words_in (per kind * n) (drop i f))) left h ∙ (rw mul-zero (none (eqb kind TI)))
  where
    none : (b : Bool) → lines_by b [] ≡ []
    none true = refl
    none false = refl

-- ---- descriptors

-- one descriptor on
pub descriptors_on :
    (kind left others i c words : ℕ) (f : List ℕ) → left ≡ suc others → c ≡ get_or f (i + 1) 0 → words ≡ per kind * c
    → descriptor_lines kind (descriptors_in (per kind) left (drop i f))
    ≡ descriptor_line kind (get_or f i 0) (words_in (per kind * c) (drop (i + 2) f))
    ++ descriptor_lines kind (descriptors_in (per kind) others (drop (i + (2 + 3 * words)) f))
unfolding descriptor_lines
descriptors_on kind left others i c words f h e₁ e₂ =
    rw (in_on (per kind) left others i (get_or f i 0) c words f h refl e₁ e₂, ← e₂)

-- ---- the head

pub head_of :
    (f : List ℕ) (k a b n m s : ℕ) → k ≡ get_or f 0 0 → a ≡ get_or f 2 0 → b ≡ get_or f 3 0 → n ≡ get_or f 4 0 → a < 256 → b < 256
    → kind_line k ++ number_line block_name (a + 256 * b) ++ number_line network_name n ++ number_line mended_name m ++ joined_line s
    ≡ head_lines m s (table_in f)
unfolding head_lines table_in
head_of f k a b n m s ek ea eb en ha hb = rw (two_bytes a b ha hb, ek, ea, eb, en)
