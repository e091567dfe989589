-- The answers that `information_writer::laying::put_letters` wants beside its invariants. Assumes nothing.
use mathlib.Core.Path.{◌≡◌, refl}
use Prim.Native.Nat.{◌+◌, ◌-◌}
use native.Mathlib.Omega.{arith}
use Rattle.information_writer.proofs.Penned.{letters-on, letters-end}
use Rattle.information_writer.proofs.laying.put_letters.Goals as goal

pub loop-i-init : goal.loop-i-init
loop-i-init c =
    let n : c.args.count - 0 ≡ c.args.count = omega arith in
    let q : c.args.to + 0 ≡ c.args.to = omega arith in
    let p : c.args.from + 0 ≡ c.args.from = omega arith in
    rw (n, q, p) refl

pub loop-i-preserved : goal.loop-i-preserved
loop-i-preserved c =
    let a = c.args in
    let l = c.loop-i in
    let n : a.count - (l.i + 1) ≡ a.count - l.i - 1 = omega arith in
    let q : a.to + (l.i + 1) ≡ a.to + l.i + 1 = omega arith in
    let p : a.from + (l.i + 1) ≡ a.from + l.i + 1 = omega arith in
    rw (n, q, p)
    (letters-on a.form.now (a.count - l.i) (a.from + l.i) (a.to + l.i) _ _ _ _ _ (omega arith) c.byte_at-code.ensures.0 c.letter.ensures c.put.ensures l.invariant)

pub returns : goal.returns
returns c = letters-end _ _ _ _ _ (omega arith) c.loop-i.invariant
