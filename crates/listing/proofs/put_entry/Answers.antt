-- `listing::put_entry` meets its contract: a language, and in TI a page. Assumes nothing.
use borrow.Author.Rules.{rules}
use mathlib.Core.List.{List}
use Prim.Native.Nat.{ℕ}
use native.Mathlib.Omega.{arith}
use Rattle.text_lines.proofs.Printed.{then, put_as, put-there}
use Rattle.listing.proofs.Walk.{entry-ti, entry-li}
use Rattle.listing.proofs.put_entry.Goals as goal

pub returns-then-kind-ne-TI : goal.returns-then-kind-ne-TI
returns-then-kind-ne-TI c =
    let a = c.args in
    let f : List ℕ = a.table.now in
    let w = c.word_at in
    let l = c.put_language-at in
    (put_as (entry-li a.kind a.i w.result f w.ensures.0 c.if-kind-ne-TI.true) (put-there (search rules) l.ensures.0), omega (arith, l.ensures.1))

pub returns : goal.returns
returns c =
    let a = c.args in
    let f : List ℕ = a.table.now in
    let w = c.word_at in
    let l = c.put_language-at in
    let x = c.word_at-2 in
    let p = c.put_page in
    let same = entry-ti a.kind a.i w.result f w.ensures.0 x.result x.ensures.0 c.if-kind-ne-TI.false in
    let both = then (put-there (search rules) l.ensures.0) (put-there (search rules) p.ensures.0) in
    (put_as same both, omega (arith, l.ensures.1, p.ensures.1))
