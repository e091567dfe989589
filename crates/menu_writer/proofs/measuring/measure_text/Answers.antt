-- `menu_writer::measuring::measure_text` meets its contract: its escapes, then its codes. Assumes nothing.
use borrow.Author.Rules.{rules}
use native.Mathlib.Omega.{arith}
use Rattle.menu_writer.proofs.Texts.{text-told}
use Rattle.menu_writer.proofs.measuring.measure_text.Goals as goal

pub returns : goal.returns
returns c =
    let a = c.args in
    let e = c.byte_at-escapes in
    let n = c.byte_at-codes in
    let p = c.pass-a.ensures in
    let q = c.pass-b.ensures in (
      text-told a.form.now a.at e.result n.result e.ensures.0 n.ensures.0 _ _ _ _ _ e.ensures.1 n.ensures.1 p.0 p.1 q.0
          q.1 (search rules),
      omega (arith, p.2, q.2, e.ensures.1, n.ensures.1),
      omega (arith, e.ensures.1),
      omega (arith, n.ensures.1),
    )
