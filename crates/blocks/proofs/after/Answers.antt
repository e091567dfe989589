-- `blocks::after` meets its contract: what was found there, case by case. Assumes nothing.
use mathlib.Core.Logic.{inl, inr}
use mathlib.Core.Path.{◌∙◌, sym, ap}
use Rattle.blocks.specs.Place.{after_found, after_at}
use Rattle.blocks.proofs.after.Goals as goal

pub returns-in-Record : goal.returns-in-Record
unfolding after_at
returns-in-Record c = sym (ap (after_found _) (sym c.record_at.ensures ∙ c.in-Record.is))

pub returns-in-End : goal.returns-in-End
unfolding after_at
returns-in-End c =
    sym (ap (after_found _) (sym c.record_at.ensures) ∙ elim c.in-End.is [ inl e ↦ ap (after_found _) e | inr e ↦ ap (after_found _) e ])
