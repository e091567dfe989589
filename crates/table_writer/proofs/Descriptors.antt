-- One descriptor on: its heading is laid as one field, then its words. Assumes nothing.
use mathlib.Core.Path.{◌≡◌, ◌∙◌, refl, sym, ap, ap₂}
use mathlib.Core.Bool.{true}
use mathlib.Core.List.{List, [], ◌∷◌, ◌++◌}
use Prim.Native.Nat.{ℕ, suc, ◌+◌, ◌*◌, ◌%◌, ◌≤◌, ◌<◌}
use lib.ListN.{length, get_or, drop}
use Rattle.fields.specs.Fields.{Field, alike, width, laid, fitting}
use Rattle.fields.specs.Pens.{last, inked, moved, Fine}
use Rattle.fields.specs.declared.pen.Pen.{Pen}
use Rattle.fields.proofs.Inking.{length-inked, on-moved, on-inked, on_fine, pressed_moved, pressed_inked}
use Rattle.forms.specs.Tables.{per, loops}
use Rattle.forms.proofs.Measures.{words_counted}
use Rattle.forms.specs.Form.{words_in, descriptors_in}
use Rattle.table_writer.proofs.Looped.{heading, heading-laid, heading-width, loops-on, fits_now}

-- a descriptor is left, its id, its number of entries and their words are read, and what is left fits
pub record Ahead (kind left others i id c words : ℕ) (f : List ℕ) : Type 0 where
  pub some : left ≡ suc others
  pub its_id : id ≡ get_or f i 0
  pub its_entries : c ≡ get_or f (i + 1) 0
  pub its_words : words ≡ per kind * c
  pub fit : fitting (loops kind (descriptors_in (per kind) left (drop i f))) ≡ true

-- so it is where the bytes at the place were read and their words counted
pub read_ahead :
    {kind left others i id c words : ℕ} {f : List ℕ} → left ≡ suc others → id ≡ get_or f i 0 → (c ≡ get_or f (i + 1) 0) × (c < 256)
    → words ≡ per kind * (c % 256)
    → fitting (loops kind (descriptors_in (per kind) left (drop i f))) ≡ true
    → Ahead kind left others i id c words f
read_ahead some id entries words fit =
    record {
      some = some;
      its_id = id;
      its_entries = entries.0;
      its_words = words_counted _ _ _ _ words entries.1 refl;
      fit = fit;
    }

module _ {kind left others i id c words : ℕ} {f : List ℕ} (a : Ahead kind left others i id c words f) where
  all : List Field
  all = loops kind (descriptors_in (per kind) left (drop i f))

  words-laid : List Field
  words-laid = alike 24 (words_in words (drop (i + 2) f))

  rest : List Field
  rest = loops kind (descriptors_in (per kind) others (drop (i + (2 + 3 * words)) f))

  split : all ≡ heading id c ++ (words-laid ++ rest)
  unfolding all words-laid rest
  split = loops-on kind left others i id c words f a.some a.its_id a.its_entries a.its_words

  small : (id < 64) × (c < 16) × (fitting rest ≡ true)
  unfolding rest
  small = fits_now kind left others i id c words f a.some a.its_id a.its_entries a.its_words a.fit

  pub few_words : c < 16
  few_words = small.1

  pub fit_on : fitting (loops kind (descriptors_in (per kind) others (drop (i + (2 + 3 * words)) f))) ≡ true
  unfolding rest
  fit_on = small.2

  one : ◌≡◌ {A = List Field} ((10, c * 64 + id) ∷ []) ((width (heading id c), laid (heading id c) 0) ∷ [])
  one =
      ap₂ (λ (w v : ℕ). (w, v) ∷ []) (sym (heading-width id c)) (heading-laid id c small.0 small.1)

  module _ (p : Pen) {q : Pen} (m : q ≡ moved p ((10, c * 64 + id) ∷ [])) where
    laid-heading : q ≡ moved p (heading id c)
    laid-heading = m ∙ ap (moved p) one ∙ pressed_moved p (heading id c)

    pub fine-heading : Fine q
    fine-heading = on_fine p (heading id c) (words-laid ++ rest) all split laid-heading

    module _ {r : Pen} (m' : r ≡ moved q (alike 24 (words_in words (drop (i + 2) f)))) where
      pub fine-descriptor : Fine r
      unfolding words-laid
      fine-descriptor = on_fine q words-laid rest (words-laid ++ rest) refl m'

      pub on-descriptor :
          moved r (loops kind (descriptors_in (per kind) others (drop (i + (2 + 3 * words)) f)))
          ≡ moved p (loops kind (descriptors_in (per kind) left (drop i f)))
      unfolding words-laid rest all
      on-descriptor =
          on-moved q words-laid rest (words-laid ++ rest) refl m' ∙ on-moved p (heading id c) (words-laid ++ rest) all split laid-heading

      pub inked-descriptor :
          (out : List ℕ) {out₁ out₂ : List ℕ} → length out ≤ last → out₁ ≡ inked p ((10, c * 64 + id) ∷ []) out
          → out₂ ≡ inked q (alike 24 (words_in words (drop (i + 2) f))) out₁
          → inked r (loops kind (descriptors_in (per kind) others (drop (i + (2 + 3 * words)) f))) out₂
          ≡ inked p (loops kind (descriptors_in (per kind) left (drop i f))) out
      unfolding words-laid rest all
      inked-descriptor out {out₁} {out₂} l k k' =
          on-inked q words-laid rest (words-laid ++ rest) refl m' out₁ (rw (k, length-inked) l) k'
          ∙ on-inked p (heading id c) (words-laid ++ rest) all split laid-heading out l
          (k ∙ ap (λ (l : List Field). inked p l out) one ∙ pressed_inked p (heading id c) out)
