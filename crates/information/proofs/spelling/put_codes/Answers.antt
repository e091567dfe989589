-- The answers that `information::spelling::put_codes` wants beside its invariants. Assumes nothing.
use mathlib.Core.Path.{◌≡◌, refl}
use Prim.Native.Nat.{◌+◌, ◌-◌}
use native.Mathlib.Omega.{arith}
use Rattle.information.proofs.Walking.{codes-on, codes-end}
use Rattle.information.proofs.spelling.put_codes.Goals as goal

pub loop-i-init : goal.loop-i-init
loop-i-init c =
    let n : c.args.count - 0 ≡ c.args.count = omega arith in
    let q : c.args.to + 0 ≡ c.args.to = omega arith in
    let p : c.args.from + 0 ≡ c.args.from = omega arith in
    rw (n, q, p) refl

pub loop-i-preserved : goal.loop-i-preserved
loop-i-preserved c =
    codes-on c.args.strings.now c.args.count c.loop-i.i c.args.from c.args.to _ _ _ _ c.loop-i-test.true c.byte_at.ensures.0 c.put.ensures c.loop-i.invariant

pub returns : goal.returns
returns c = codes-end _ _ _ _ _ (omega arith) c.loop-i.invariant
