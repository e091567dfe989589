-- The format of tables 15 and 17 is lawful: what is laid is read back, and what is read fits and is laid again as it was. The law is put
-- together as the format is. Assumes nothing.
use mathlib.Core.Path.{◌≡◌, ◌∙◌, refl, ap}
use mathlib.Core.List.{[]}
use Prim.Native.Nat.{ℕ, ◌*◌, ◌/◌, ◌<◌}
use native.Mathlib.Nat.{mul-div_cancel_left}
use borrow.Author.Tests.{eqb-true}
use lib.ListN.{length}
use Rattle.codecs.proofs.Codes.{each_none}
use Rattle.codecs.proofs.Lawful.{Lawful, number-lawful, numbers-lawful, then-lawful, seen-lawful, counted-lawful}
use Rattle.kinds.specs.Kind.{Content, strings}
use Rattle.kinds.proofs.Fronts.{Owed}
use Rattle.forms.specs.Tables.{Body, per, descriptor, ordered, named, behind, tables}
use Rattle.forms.proofs.Measures.{per_pos}

descriptor-lawful : (each : ℕ) → 0 < each → Lawful (descriptor each)
descriptor-lawful each h =
    seen-lawful _ _ (then-lawful (number-lawful _) (λ id. then-lawful (number-lawful _) (λ k. numbers-lawful 24 _))) (λ d. refl)
    (λ r e.
    ap (λ (k : ℕ). (r.0, (k, r.1.1)))
    (ap (λ (n : ℕ). n / each) (eqb-true (length r.1.1) (each * r.1.0) e) ∙ mul-div_cancel_left r.1.0 h))

behind-lawful : (kind : ℕ) → Lawful (behind kind)
behind-lawful kind =
    seen-lawful ordered named
    (then-lawful (number-lawful _) (λ block. then-lawful (number-lawful _) (λ network. counted-lawful _ (descriptor-lawful (per kind) (per_pos kind)))))
    (λ b. refl) (λ r e. refl)

-- no strings follow
pub no_strings : (c : Content Body) → strings tables c ≡ []
no_strings c = each_none c.body.descriptors

-- so tables are a kind that is read exactly
pub owed : Owed tables
owed = record { lawful = behind-lawful; silent = λ e c. no_strings c }
