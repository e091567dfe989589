-- The answers that `broadcast::are_alike` wants beside its invariants. Assumes nothing.
use mathlib.Core.Path.{◌∙◌, sym}
use native.Mathlib.Omega.{arith}
use Rattle.broadcast.proofs.Alike.{alikes-step, alikes-stop, alikes-end}
use Rattle.broadcast.proofs.are_alike.Goals as goal

pub returns-then-not-is_alike : goal.returns-then-not-is_alike
returns-then-not-is_alike c =
    let l = c.loop-i in
    alikes-stop _ _ l.i (omega arith) c.requires (sym c.is_alike.ensures ∙ c.if-not-is_alike.true) ∙ l.invariant

pub loop-i-preserved : goal.loop-i-preserved
loop-i-preserved c =
    let l = c.loop-i in
    alikes-step _ _ l.i (omega arith) c.requires (sym c.is_alike.ensures ∙ c.if-not-is_alike.false) ∙ l.invariant

pub returns : goal.returns
returns c = let l = c.loop-i in alikes-end _ _ l.i (omega arith) c.requires ∙ l.invariant
