-- `forms::items::word_at` meets its contract: three bytes, the high one first, or none. Assumes nothing.
use borrow.Author.Rules.{rules}
use mathlib.Core.Path.{◌≡◌, ◌∙◌}
use mathlib.Core.List.{List}
use Prim.Native.Nat.{ℕ, ◌+◌}
use native.Mathlib.Omega.{arith}
use lib.ListN.{get_or}
use Rattle.forms.proofs.Words.{word_of, word-past}
use Rattle.forms.proofs.items.word_at.Goals as goal

pub returns-then-table-i : goal.returns-then-table-i
returns-then-table-i c = (word-past c.args.table.now c.args.i c.if-table-i.true, search rules)

pub returns : goal.returns
returns c =
    let a = c.args in
    let f : List ℕ = a.table.now in
    let x = c.byte_at-high in
    let y = c.byte_at-middle in
    let z = c.byte_at-low in
    let ex : x.result ≡ get_or f a.i 0 = x.ensures.0 in
    let ey : y.result ≡ get_or f (a.i + 1) 0 = y.ensures.0 in
    let ez : z.result ≡ get_or f (a.i + 2) 0 = z.ensures.0 in (
      word_of x.result y.result z.result x.ensures.1 y.ensures.1 z.ensures.1 ∙ (rw (ex, ey, ez)),
      omega (arith, x.ensures.1, y.ensures.1, z.ensures.1),
    )
