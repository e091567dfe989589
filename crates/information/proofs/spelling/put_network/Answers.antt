-- `information::spelling::put_network` meets its contract: the row of its values, and its name. Assumes nothing.
use mathlib.Core.Path.{sym, ap}
use Prim.Native.Nat.{ℕ, ◌+◌, ◌*◌}
use native.Mathlib.Omega.{arith}
use lib.ListN.{drop}
use Rattle.fields.specs.Compound.{compound}
use Rattle.information.specs.Internal.{spoken}
use Rattle.information.proofs.Networks.{one-long, one-put}
use Rattle.information.proofs.spelling.put_network.Goals as goal

pub returns : goal.returns
returns c =
    let a = c.args in
    let f = c.field_of-codes in
    let r = c.put_row in
    let p = c.put_codes in
    let n = compound a.control.now in
    let cs = drop a.from (spoken a.strings.now) in
    let at = 160 + 100 * a.j in (
      ap (λ (x : ℕ). a.from + x) (sym (one-long n at f.result cs f.ensures.0)),
      omega (arith, f.ensures.1),
      one-put n at f.result cs f.ensures.0 (20 + 17 * a.j + a.from) a.out.now _ _ r.ensures p.ensures,
    )
