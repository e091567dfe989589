-- The descriptors of a block as they are read: how a walk along them counts the bits, and what room their form takes. Assumes
-- nothing.
use mathlib.Core.Path.{◌≡◌, ◌∙◌, sym, ap, subst}
use mathlib.Core.List.{List}
use Prim.Native.Nat.{ℕ, suc, ◌+◌, ◌-◌, ◌*◌, ◌/◌, ◌^◌, ◌≤◌}
use native.Mathlib.Nat.{add-zero}
use native.Mathlib.Omega.{arith}
use lib.ListN.{length}
use lib.Pow.{shr-shr}
use Rattle.fields.specs.Fields.{width, field}
use Rattle.fields.specs.declared.Opening.{Opening}
use Rattle.fields.proofs.Laid.{length-parts, field_past}
use Rattle.kinds.specs.Kind.{content_of}
use Rattle.forms.specs.Tables.{Descriptor, per, table_sent, sent_in, loops, bits}
use Rattle.forms.specs.Form.{form}
use Rattle.forms.proofs.Measures.{width-loops, bits_of, length-form, eights}
use Rattle.table.specs.Control.{descriptors_of}
use Rattle.table.specs.Internal.{opening_by}
use Rattle.table.proofs.Places.{descriptors_on, loops-at}

-- one descriptor on, at the place `at` of the bits n
pub walk_step :
    (kind each k n at : ℕ)
    → let words = each * field (at + 6) 4 n in
    width (loops kind (descriptors_of each (suc k) (n / 2 ^ at)))
    ≡ 10 + 24 * words + width (loops kind (descriptors_of each k (n / 2 ^ (at + (10 + 24 * words)))))
walk_step kind each k n at = rw (descriptors_on, width-loops, length-parts, field_past, shr-shr)

-- the same as the loop has it: what is passed and what is left make the whole
pub walk-on :
    (kind left others n at c words whole : ℕ) → left ≡ suc others → c ≡ field (at + 6) 4 n → words ≡ per kind * c
    → at + width (loops kind (descriptors_of (per kind) left (n / 2 ^ at))) ≡ whole
    → at + (10 + 24 * words) + width (loops kind (descriptors_of (per kind) others (n / 2 ^ (at + (10 + 24 * words))))) ≡ whole
walk-on kind left others n at c words whole h e₁ e₂ inv =
    let one =
    subst (λ (k : ℕ). at + width (loops kind (descriptors_of (per kind) k (n / 2 ^ at))) ≡ whole) h inv in
    let two = walk_step kind (per kind) others n at in
    rw (e₂ ∙ ap (λ (x : ℕ). per kind * x) e₁) (omega (arith, one, two))

pub walk_end :
    (kind left n at whole : ℕ) → left ≤ 0 → at + width (loops kind (descriptors_of (per kind) left (n / 2 ^ at))) ≡ whole
    → at ≡ whole
unfolding descriptors_of loops width
walk_end kind left n at whole h inv =
    let e : left ≡ 0 = omega arith in
    sym (add-zero at)
    ∙ subst (λ (k : ℕ). at + width (loops kind (descriptors_of (per kind) k (n / 2 ^ at))) ≡ whole) e inv

-- what is measured are the table's bits, and the form's bytes go by them
module _ (o : Opening) (n b : ℕ) (opens : o ≡ opening_by (sent_in n)) where
  pub measured :
      b ≡ 58 + width (loops o.kind (descriptors_of (per o.kind) o.count (n / 2 ^ 58))) → b ≡ bits (table_sent (content_of (sent_in n)))
  measured e =
      let t = table_sent (content_of (sent_in n)) in
      e ∙ ap (λ (p : Opening). 58 + width (loops p.kind (descriptors_of (per p.kind) p.count (n / 2 ^ 58)))) opens
      ∙ ap (λ (ds : List Descriptor). 58 + width (loops t.kind ds)) (sym (loops-at n))
      ∙ sym (bits_of t)

  pub form-need : b ≡ bits (table_sent (content_of (sent_in n))) → 6 + (b - 58 + 6 * o.count) / 8 ≡ length (form (table_sent (content_of (sent_in n))))
  form-need e =
      let t = table_sent (content_of (sent_in n)) in
      omega (arith, bits_of t, length-form t, eights t.kind t.descriptors, ap (λ (p : Opening). p.count) opens)
