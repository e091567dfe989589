-- `kinds::control_length` meets its contract: with strings what the greatest and the least of the sizes come to. Assumes nothing.
use Prim.Native.Nat.{ℕ, ◌*◌, max, min}
use mathlib.Core.Path.{◌≡◌}
use mathlib.Core.List.{List}
use native.Mathlib.Omega.{arith}
use lib.ListN.{length}
use Rattle.kinds.proofs.Counting.{count-said}
use Rattle.kinds.proofs.control_length.Goals as goal

pub returns : goal.returns
returns c =
    let raw : List ℕ = c.args.raw.now in
    let n : c.max.result ≡ max 8 (min (2 * c.field_of-control.result) (length raw)) = omega (arith, c.max.ensures, c.min.ensures) in
    (count-said c.args.spoken raw _ c.if-not-spoken.false c.field_of-control.ensures.0 c.requires _ n, omega (arith, n), omega (arith, n, c.requires))
