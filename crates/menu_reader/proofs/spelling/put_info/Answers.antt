-- The answers that `menu_reader::spelling::put_info` wants beside its invariants. Assumes nothing.
use mathlib.Core.Path.{◌≡◌, refl}
use Prim.Native.Nat.{◌+◌, ◌-◌}
use native.Mathlib.Omega.{arith}
use Rattle.menu_reader.proofs.Rows.{info_on, info_end}
use Rattle.menu_reader.proofs.spelling.put_info.Goals as goal

pub loop-i-init : goal.loop-i-init
loop-i-init c =
    let k : c.args.k - 0 ≡ c.args.k = omega arith in
    let q : c.args.to + 0 ≡ c.args.to = omega arith in
    rw (k, q) refl

pub loop-i-preserved : goal.loop-i-preserved
loop-i-preserved c =
    info_on _ _ _ _ _ _ _ _ c.loop-i-test.true c.info_at.ensures c.put.ensures c.loop-i.invariant

pub returns : goal.returns
returns c = info_end _ _ _ _ _ (omega arith) c.loop-i.invariant
