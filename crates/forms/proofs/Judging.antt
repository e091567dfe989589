-- How the rules of a form decide, a lemma for each way that the code goes. Assumes nothing.
use mathlib.Core.Path.{◌≡◌}
use mathlib.Core.Bool.{true, false}
use mathlib.Core.List.{List, [], ◌∷◌}
use Prim.Native.Nat.{ℕ, ◌≤◌, ◌<◌}
use native.Mathlib.Omega.{arith}
use borrow.Author.Tests.{le-ltb, le-leb, lt-leb, eq-eqb, ne_eqb}
use lib.Dec.{ltb}
use lib.ListN.{length, get_or}
use Rattle.laws.proofs.Tests.{either_true}
use Rattle.answer.specs.Rules.{rule, judged}
use Rattle.answer.specs.Answer.{Answer}
use Rattle.answer.specs.Values.{refused}
use Rattle.forms.specs.Tables.{known, numbered, fits}
use Rattle.forms.specs.Form.{form, table_in}
use Rattle.forms.specs.Writing.{form_numbered, form_rules}

-- a form whose table has a number of this edition is judged so
pub form-said : (f : List ℕ) → numbered (table_in f).block ≡ true → form_numbered f ≡ true
form-said f e = rw e (either_true (ltb (length f) 4))

module _ (f : List ℕ) (a : Answer) where
  pub form-22 : form_numbered f ≡ false → judged refused (form_rules f) a ≡ refused 22 0
  unfolding form_rules
  form-22 h = rw h

  module _ (h₀ : form_numbered f ≡ true) where
    pub form-13 : length f < 6 → judged refused (form_rules f) a ≡ refused 13 0
    unfolding form_rules
    form-13 h = rw (h₀, lt-leb 6 (length f) h)

    module _ (h₁ : 6 ≤ length f) where
      pub form-15 : known (get_or f 0 0) ≡ false → judged refused (form_rules f) a ≡ refused 15 0
      unfolding form_rules
      form-15 h = rw (h₀, le-leb 6 (length f) h₁, h)

      -- it is long enough to hold its number
      pub form-edition : numbered (table_in f).block ≡ true
      form-edition = rw (le-ltb (length f) 4 (omega arith)) at h₀

      module _ (h₂ : known (get_or f 0 0) ≡ true) where
        pub form-13' : (length f ≡ length (form (table_in f)) → ⊥) → judged refused (form_rules f) a ≡ refused 13 0
        unfolding form_rules
        form-13' h = rw (h₀, le-leb 6 (length f) h₁, h₂, ne_eqb (length f) (length (form (table_in f))) h)

        pub form-values :
            length f ≡ length (form (table_in f))
            → judged refused (form_rules f) a ≡ judged refused (rule (fits (table_in f)) 15 0 ∷ []) a
        unfolding form_rules
        form-values h = rw (h₀, le-leb 6 (length f) h₁, h₂, eq-eqb (length f) (length (form (table_in f))) h)
