-- `listing::put_head` meets its contract: five lines, one after the other, the last where it is asked for. Assumes nothing.
use borrow.Author.Rules.{rules}
use mathlib.Core.List.{List}
use Prim.Native.Nat.{ℕ}
use native.Mathlib.Omega.{arith}
use Rattle.text_lines.proofs.Printed.{then, put_as, put-there}
use Rattle.listing.proofs.Walk.{head_of}
use Rattle.listing.proofs.put_head.Goals as goal

pub returns : goal.returns
returns c =
    let f : List ℕ = c.args.table.now in
    let k = c.byte_at-kind in
    let a = c.byte_at in
    let b = c.byte_at-2 in
    let n = c.byte_at-network in
    let x = c.put_kind-a in
    let y = c.put_number-b in
    let z = c.put_number-c in
    let w = c.put_number-d in
    let v = c.put_joined in
    let whole =
    head_of f k.result a.result b.result n.result c.args.head.mended c.args.head.second k.ensures.0 a.ensures.0 b.ensures.0 n.ensures.0
    a.ensures.1 b.ensures.1 in
    let two = then (put-there (search rules) x.ensures.0) (put-there (search rules) y.ensures.0) in (
      put_as whole
          (then (then (then two (put-there (search rules) z.ensures.0)) (put-there (search rules) w.ensures.0)) v.ensures.0),
      omega (arith, x.ensures.1, y.ensures.1, z.ensures.1, w.ensures.1, v.ensures.1),
    )
