-- The answers that `survey::seen::note` wants beside its invariant. Assumes nothing.
use mathlib.Core.Path.{◌∙◌, sym, ap}
use Prim.Native.Nat.{ℕ}
use native.Mathlib.Omega.{arith}
use Rattle.std.proofs.lemmas.List.{set-get_or}
use Rattle.survey.specs.Pages.{noted}
use Rattle.survey.proofs.Noting.{note-here, note-later, note-nowhere}
use Rattle.survey.proofs.seen.note.Goals as goal

pub returns-then-is_place : goal.returns-then-is_place
returns-then-is_place c =
    let l = c.loop-place in
    note-here c.code-code.result l.pages l.place-index (omega arith) (sym c.is_place.ensures ∙ c.if-is_place.true)
    ∙ l.invariant
    ∙ ap (λ (k : ℕ). noted k c.args.pages.now) c.code-code.ensures

pub loop-place-preserved : goal.loop-place-preserved
loop-place-preserved c =
    let l = c.loop-place in
    rw set-get_or
    (note-later c.code-code.result l.pages l.place-index (omega arith) (sym c.is_place.ensures ∙ c.if-is_place.false) ∙ l.invariant)

pub returns : goal.returns
returns c =
    let l = c.loop-place in
    note-nowhere c.code-code.result l.pages l.place-index (omega arith)
    ∙ l.invariant
    ∙ ap (λ (k : ℕ). noted k c.args.pages.now) c.code-code.ensures
