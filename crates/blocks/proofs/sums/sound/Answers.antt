-- The answers that `blocks::sums::sound` wants beside its invariants. Assumes nothing.
use borrow.Author.Rules.{rules}
use mathlib.Core.Path.{◌∙◌}
use mathlib.Core.List.{List}
use Prim.Native.Nat.{ℕ}
use native.Mathlib.Nat.{zero-add}
use native.Mathlib.Omega.{arith}
use lib.ListN.{get_or}
use Rattle.octet.proofs.Laws.{entry_at}
use Rattle.blocks.proofs.Summing.{sound-step, sound-stop, sound-end}
use Rattle.blocks.proofs.sums.sound.Goals as goal

pub loop-i-init : goal.loop-i-init
loop-i-init c = zero-add _

pub bounds-table-b : goal.bounds-table-b
bounds-table-b c = omega (arith, c.type_inv.s c.loop-i.i)

pub returns-then-table-b-gt15 : goal.returns-then-table-b-gt15
returns-then-table-b-gt15 c =
    let l = c.loop-i in
    let s : List ℕ = c.args.s.now in
    let t = c.decodings-table in
    let e = entry_at t.result t.ensures (get_or s l.i 0) (c.type_inv.s l.i).fits in
    sound-stop s l.i (search rules) (omega (arith, e, c.if-table-b-gt15.true)) ∙ l.invariant

pub loop-i-preserved : goal.loop-i-preserved
loop-i-preserved c =
    let l = c.loop-i in
    let s : List ℕ = c.args.s.now in
    let t = c.decodings-table in
    let e = entry_at t.result t.ensures (get_or s l.i 0) (c.type_inv.s l.i).fits in
    sound-step s l.i (search rules) (omega (arith, e, c.if-table-b-gt15.false)) ∙ l.invariant

pub returns : goal.returns
returns c =
    let l = c.loop-i in
    let all = sound-end c.args.s.now l.i (search rules) in
    omega (arith, l.invariant, all)
