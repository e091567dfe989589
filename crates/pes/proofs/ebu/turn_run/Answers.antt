-- The answers that `pes::ebu::turn_run` wants beside its invariant. Assumes nothing.
use borrow.Author.Tests.{leb-true}
use mathlib.Core.Path.{◌∙◌, sym}
use Prim.Native.Nat.{◌+◌, ◌≤◌}
use native.Mathlib.Omega.{arith}
use lib.ListN.{length, length-set}
use Rattle.pes.proofs.Runs.{run_step, run-whole, text-fits, text-short, text-no_room}
use Rattle.pes.proofs.ebu.turn_run.Goals as goal
use Rattle.pes.proofs.ebu.turn_run.Goals.{else-has_text-via-then-has_text+else-has_text-2, else-has_text-via-else-has_text}

pub loop-i-preserved : goal.loop-i-preserved
loop-i-preserved c =
    let l = c.loop-i in
    let a = c.args in
    let f : a.from + 42 ≤ length a.src.now = leb-true _ _ (sym c.has_text.ensures ∙ c.if-has_text.true) in (
      simp length-set l.invariant.0,
      run_step 42 l.i a.from a.src.now a.to c.turn.result l.out (omega arith) f c.turn.ensures ∙ l.invariant.1,
    )

pub returns-after-loop-i : goal.returns-after-loop-i
returns-after-loop-i c =
    let l = c.loop-i in
    let a = c.args in
    let f : a.from + 42 ≤ length a.src.now = leb-true _ _ (sym c.has_text.ensures ∙ c.if-has_text.true) in
    let t : a.to + 42 ≤ length a.out.now = leb-true _ _ (sym c.has_text-then-has_text.ensures ∙ c.if-has_text-2.true) in
    run-whole 42 l.i a.from a.src.now a.to l.out a.out.now (omega arith) l.invariant.1
    ∙ sym (text-fits a.src.now a.from a.out.now a.to f t)

pub returns-else-has_text : goal.returns-else-has_text
returns-else-has_text c =
    let a = c.args in
    elim c.else-has_text.branch [
      | else-has_text-via-then-has_text+else-has_text-2 w ↦
          sym (text-no_room a.src.now a.from a.out.now a.to (sym w.has_text-then-has_text.ensures ∙ w.if-has_text-2.false))
      | else-has_text-via-else-has_text w ↦ sym (text-short a.src.now a.from a.out.now a.to (sym c.has_text.ensures ∙ w.if-has_text.false))
    ]
