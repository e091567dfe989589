-- Writing the table form: one word, one descriptor on. Each says that what is left to be stored from here makes what was to be
-- stored from the start. Assumes nothing.
use mathlib.Core.Path.{◌≡◌, ◌∙◌, sym, ap, ap₂, subst}
use mathlib.Core.List.{List, [], ◌∷◌, ◌++◌}
use Prim.Native.Nat.{ℕ, suc, ◌+◌, ◌*◌, ◌/◌, ◌%◌, ◌^◌, ◌≤◌}
use native.Mathlib.Nat.{add-zero, mul-div_cancel_left}
use native.Mathlib.Omega.{arith}
use lib.ListN.{length, set}
use lib.Pow.{shr-shr}
use lib.Seq.{sets}
use Rattle.laws.proofs.Lists.{sets-append}
use Rattle.fields.specs.Fields.{field, parts}
use Rattle.fields.specs.declared.Opening.{Opening}
use Rattle.kinds.specs.Kind.{content_of}
use Rattle.forms.specs.Tables.{Descriptor, per, table_sent, sent_in}
use Rattle.forms.specs.Form.{spelled, listed, opening_of, form}
use Rattle.table.specs.Control.{descriptors_of}
use Rattle.table.specs.Internal.{opening_by}
use Rattle.fields.proofs.Laid.{field_past, length-parts}
use Rattle.forms.proofs.Measures.{length-spelled, per_pos}
use Rattle.table.proofs.Places.{descriptors_on, loops-at}

-- ---- one store, and those behind it

pub stored :
    (l l' l'' : List ℕ) (i j a : ℕ) (vs : List ℕ) → j ≡ suc i → l' ≡ set l i a → l'' ≡ sets l' j vs → l'' ≡ sets l i (a ∷ vs)
stored l l' l'' i j a vs n e f = f ∙ ap₂ (λ (x : List ℕ) (k : ℕ). sets x k vs) e n

-- ---- words

pub word_on :
    (left others n at p w : ℕ) (out out' whole : List ℕ) → left ≡ suc others → w ≡ field at 24 n → out' ≡ sets out p (spelled (w ∷ []))
    → sets out p (spelled (parts 24 left (n / 2 ^ at))) ≡ whole
    → sets out' (p + 3) (spelled (parts 24 others (n / 2 ^ (at + 24)))) ≡ whole
unfolding parts spelled field
word_on left others n at p w out out' whole h e₁ e₂ inv =
    let rest = parts 24 others (n / 2 ^ at / 2 ^ 24) in
    let one =
    subst (λ (k : ℕ). sets out p (spelled (parts 24 k (n / 2 ^ at))) ≡ whole) h inv in
    rw (e₂, e₁, ← shr-shr) (sym (sets-append out p (spelled (n / 2 ^ at % 2 ^ 24 ∷ [])) (spelled rest)) ∙ one)

pub words_end :
    (left n at p : ℕ) (out whole : List ℕ) → left ≤ 0 → sets out p (spelled (parts 24 left (n / 2 ^ at))) ≡ whole → out ≡ whole
unfolding parts spelled
words_end left n at p out whole h inv =
    let e : left ≡ 0 = omega arith in
    subst (λ (k : ℕ). sets out p (spelled (parts 24 k (n / 2 ^ at))) ≡ whole) e inv

-- ---- descriptors

-- a descriptor as it is stored is the first of the form's, and the others follow
pub listed-first :
    (kind left n at words : ℕ) → words ≡ per kind * field (at + 6) 4 n
    → listed kind (descriptors_of (per kind) (suc left) (n / 2 ^ at))
    ≡ (field at 6 n ∷ field (at + 6) 4 n ∷ spelled (parts 24 words (n / 2 ^ (at + 10))))
    ++ listed kind (descriptors_of (per kind) left (n / 2 ^ (at + (10 + 24 * words))))
unfolding listed
listed-first kind left n at words e =
    rw (descriptors_on (per kind) left (n / 2 ^ at), e, field_past 0 6 at n, field_past 6 4 at n, add-zero at, shr-shr n at 10, shr-shr n at _, length-parts, mul-div_cancel_left, per_pos kind)

module _ (kind left others n at words : ℕ) (h : left ≡ suc others) (e : words ≡ per kind * field (at + 6) 4 n) where
  first : List ℕ
  first = field at 6 n ∷ field (at + 6) 4 n ∷ spelled (parts 24 words (n / 2 ^ (at + 10)))

  split-first :
      listed kind (descriptors_of (per kind) left (n / 2 ^ at))
      ≡ first ++ listed kind (descriptors_of (per kind) others (n / 2 ^ (at + (10 + 24 * words))))
  unfolding first
  split-first =
      ap (λ (k : ℕ). listed kind (descriptors_of (per kind) k (n / 2 ^ at))) h ∙ listed-first kind others n at words e

  length-first : length first ≡ 2 + 3 * words
  unfolding first
  length-first = rw (length-spelled, length-parts) (omega arith)

  pub descriptor-on :
      (q : ℕ) (out out' whole : List ℕ)
      → out' ≡ sets out q (field at 6 n ∷ field (at + 6) 4 n ∷ spelled (parts 24 words (n / 2 ^ (at + 10))))
      → sets out q (listed kind (descriptors_of (per kind) left (n / 2 ^ at))) ≡ whole
      → sets out' (q + (2 + 3 * words)) (listed kind (descriptors_of (per kind) others (n / 2 ^ (at + (10 + 24 * words)))))
      ≡ whole
  unfolding first
  descriptor-on q out out' whole e₂ inv =
      rw (e₂, ← length-first) (sym (sets-append out q first _) ∙ sym (ap (sets out q) split-first) ∙ inv)

pub descriptors_end :
    (kind left n at q : ℕ) (out whole : List ℕ) → left ≤ 0
    → sets out q (listed kind (descriptors_of (per kind) left (n / 2 ^ at))) ≡ whole
    → out ≡ whole
unfolding listed descriptors_of
descriptors_end kind left n at q out whole h inv =
    let e : left ≡ 0 = omega arith in
    subst (λ (k : ℕ). sets out q (listed kind (descriptors_of (per kind) k (n / 2 ^ at))) ≡ whole) e inv

-- ---- the form

-- what a block opens with, and then the descriptors, are the form of its table
pub form_at_lem :
    (o : Opening) (n : ℕ) → o ≡ opening_by (sent_in n) → (out out₁ out₂ : List ℕ)
    → out₁ ≡ sets out 0 (o.kind ∷ o.copyright ∷ o.block % 256 ∷ o.block / 256 ∷ o.network ∷ o.count ∷ [])
    → out₂ ≡ sets out₁ 6 (listed o.kind (descriptors_of (per o.kind) o.count (n / 2 ^ 58)))
    → out₂ ≡ sets out 0 (form (table_sent (content_of (sent_in n))))
unfolding form opening_of
form_at_lem o n e out out₁ out₂ p q =
    let t = table_sent (content_of (sent_in n)) in
    let front : out₁ ≡ sets out 0 (opening_of t) =
    p ∙ ap (λ (x : Opening). sets out 0 (x.kind ∷ x.copyright ∷ x.block % 256 ∷ x.block / 256 ∷ x.network ∷ x.count ∷ [])) e in
    let behind : out₂ ≡ sets out₁ 6 (listed t.kind t.descriptors) =
    q ∙ ap (λ (x : Opening). sets out₁ 6 (listed x.kind (descriptors_of (per x.kind) x.count (n / 2 ^ 58)))) e
    ∙ ap (λ (ds : List Descriptor). sets out₁ 6 (listed t.kind ds)) (sym (loops-at n)) in
    behind ∙ (rw front (sym (sets-append out 0 (opening_of t) (listed t.kind t.descriptors))))
