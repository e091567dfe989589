-- The answers that `state::is_clear` wants beside its invariants. Assumes nothing.
use mathlib.Core.Path.{◌∙◌, refl, sym}
use Prim.Native.Nat.{◌-◌}
use native.Mathlib.Omega.{arith}
use Rattle.state.proofs.Clearing.{clear-on, clear-ends}
use Rattle.state.proofs.is_clear.Goals as goal

pub loop-i-init : goal.loop-i-init
loop-i-init c = refl

pub loop-i-preserved : goal.loop-i-preserved
loop-i-preserved c =
    let l = c.loop-i in
    let a = c.args in
    clear-on a.store.now l.i l.mix (omega arith) ∙ l.invariant

pub returns : goal.returns
returns c =
    let l = c.loop-i in
    sym (clear-ends c.args.store.now l.i l.mix (omega arith)) ∙ l.invariant
