-- The answers that `information_writer::measuring::codes_fine` wants beside its invariants. Assumes nothing.
use mathlib.Core.Path.{◌≡◌, ◌∙◌, refl, sym}
use Prim.Native.Nat.{◌+◌, ◌-◌}
use native.Mathlib.Omega.{arith}
use lib.ListN.{drop}
use Rattle.information_writer.proofs.Along.{codes-bad, codes-good, codes-end}
use Rattle.information_writer.proofs.measuring.codes_fine.Goals as goal

pub loop-i-init : goal.loop-i-init
loop-i-init c =
    let n : c.args.count - 0 ≡ c.args.count = omega arith in
    let p : c.args.at + 0 ≡ c.args.at = omega arith in
    rw (n, p) refl

pub returns-then-byte_at-ge128 : goal.returns-then-byte_at-ge128
returns-then-byte_at-ge128 c =
    let a = c.args in
    let l = c.loop-i in
    sym (codes-bad a.form.now (a.at + l.i) (a.count - l.i) (omega arith) _ c.byte_at.ensures.0 c.if-byte_at-ge128.true) ∙ l.invariant

pub loop-i-preserved : goal.loop-i-preserved
loop-i-preserved c =
    let a = c.args in
    let l = c.loop-i in
    let n : a.count - (l.i + 1) ≡ a.count - l.i - 1 = omega arith in
    let p : a.at + (l.i + 1) ≡ a.at + l.i + 1 = omega arith in
    rw (n, p)
    (codes-good a.form.now (a.at + l.i) (a.count - l.i) (omega arith) _ _ c.byte_at.ensures.0 c.if-byte_at-ge128.false l.invariant)

pub returns : goal.returns
returns c =
    let a = c.args in
    let l = c.loop-i in
    sym (codes-end (drop (a.at + l.i) a.form.now) (a.count - l.i) (omega arith)) ∙ l.invariant
