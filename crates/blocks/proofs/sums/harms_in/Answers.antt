-- The answers that `blocks::sums::harms_in` wants beside its invariants. Assumes nothing.
use borrow.Author.Rules.{rules}
use mathlib.Core.List.{List}
use Prim.Native.Nat.{ℕ}
use native.Mathlib.Nat.{zero-add}
use native.Mathlib.Omega.{arith}
use Rattle.blocks.proofs.Mending.{harms-on, harms-end}
use Rattle.blocks.proofs.sums.harms_in.Goals as goal

pub loop-b-init : goal.loop-b-init
loop-b-init c = (search rules, zero-add _)

pub loop-b-preserved : goal.loop-b-preserved
loop-b-preserved c =
    let l = c.loop-b in
    let s : List ℕ = c.args.s.now in
    let h = c.harm_of-count.ensures in
    (omega (arith, h.1, l.invariant.0), omega (arith, h.0, harms-on s l.b-index (search rules), l.invariant.1))

pub returns : goal.returns
returns c =
    let l = c.loop-b in
    omega (arith, harms-end c.args.s.now l.b-index (search rules), l.invariant.1)
