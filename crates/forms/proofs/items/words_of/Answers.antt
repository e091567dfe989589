-- `forms::items::words_of` meets its contract, kind by kind. Assumes nothing.
use borrow.Author.Rules.{rules}
use native.Mathlib.Nat.{one-mul}
use borrow.Author.Tests.{eq-eqb, ne_eqb}
use Rattle.forms.specs.Kinds.{per}
use mathlib.Core.Path.{refl, sym}
use Rattle.forms.proofs.items.words_of.Goals as goal

pub returns-then-kind-eq-TI : goal.returns-then-kind-eq-TI
unfolding per
returns-then-kind-eq-TI c = (rw (eq-eqb _ _ c.if-kind-eq-TI.true) refl, search rules)

pub returns-else-kind-eq-TI : goal.returns-else-kind-eq-TI
unfolding per
returns-else-kind-eq-TI c = (rw (ne_eqb _ _ c.if-kind-eq-TI.false) (sym (one-mul _)), search rules)
