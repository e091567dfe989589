-- How the rules of number and lengths decide, a lemma for each way that the code goes. Assumes nothing.
use mathlib.Core.Path.{◌≡◌, ◌∙◌, sym, ap, ap₂}
use mathlib.Core.Bool.{Bool, true, false}
use mathlib.Core.List.{[], ◌∷◌}
use Prim.Native.Nat.{ℕ}
use lib.Dec.{eqb}
use borrow.Author.Tests.{eq-eqb, ne_eqb}
use Rattle.laws.specs.Pick.{both}
use Rattle.answer.specs.Rules.{rule, judged}
use Rattle.answer.specs.Answer.{Answer}
use Rattle.answer.specs.Values.{refused}
use Rattle.fields.specs.declared.Opening.{Opening}
use Rattle.kinds.specs.Kind.{Sent, content_of}
use Rattle.kinds.specs.Reading.{length_rules as kind_length_rules}
use Rattle.forms.specs.Tables.{Table, Body, block_numbered, table_sent, control, size}
use Rattle.forms.proofs.Blocks.{control-any, size-any}
use Rattle.table.specs.Internal.{opening_by}
use Rattle.table.specs.Lengths.{length_rules}

module _ (block_size : ℕ) (o : Opening) (s : Sent Body) (opens : o ≡ opening_by s) (a : Answer) where
  abbrev t : Table
  t = table_sent (content_of s)

  -- both sizes are those of the table
  rules-are :
      length_rules block_size s
      ≡ rule (block_numbered block_size t.block) 22 0 ∷ rule (both (eqb s.0.control (control t)) (eqb block_size (size t))) 14 0 ∷ []
  unfolding kind_length_rules
  rules-are =
      ap₂ (λ (x y : ℕ). rule (block_numbered block_size t.block) 22 0 ∷ rule (both (eqb s.0.control x) (eqb block_size y)) 14 0 ∷ [])
      (control-any s.0.reserved t) (size-any s.0.reserved t)

  number_read : (b : Bool) → block_numbered block_size o.block ≡ b → block_numbered block_size t.block ≡ b
  number_read b h = sym (ap (λ (p : Opening). block_numbered block_size p.block) opens) ∙ h

  control-read : s.0.control ≡ o.control
  control-read = sym (ap (λ (p : Opening). p.control) opens)

  pub lengths-22 : block_numbered block_size o.block ≡ false → judged refused (length_rules block_size s) a ≡ refused 22 0
  lengths-22 h = rw (rules-are, number_read false h)

  module _ (h₀ : block_numbered block_size o.block ≡ true) where
    pub lengths-14 : (o.control ≡ control t → ⊥) → judged refused (length_rules block_size s) a ≡ refused 14 0
    lengths-14 h = rw (rules-are, number_read true h₀, ne_eqb s.0.control (control t) (λ e. h (sym control-read ∙ e)))

    module _ (h₁ : o.control ≡ control t) where
      pub lengths-14' : (block_size ≡ size t → ⊥) → judged refused (length_rules block_size s) a ≡ refused 14 0
      lengths-14' h =
          rw (rules-are, number_read true h₀, eq-eqb s.0.control (control t) (control-read ∙ h₁), ne_eqb block_size (size t) h)

      pub lengths-done : block_size ≡ size t → judged refused (length_rules block_size s) a ≡ a
      lengths-done h =
          rw (rules-are, number_read true h₀, eq-eqb s.0.control (control t) (control-read ∙ h₁), eq-eqb block_size (size t) h)
