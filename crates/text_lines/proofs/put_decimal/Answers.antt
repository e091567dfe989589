-- `text_lines::put_decimal` meets its contract: the line from the first digit on is put. Assumes nothing.
use borrow.Author.Rules.{rules}
use native.Mathlib.Omega.{arith}
use Rattle.text_lines.proofs.Decimals.{rest-length, put_rest}
use Rattle.text_lines.proofs.put_decimal.Goals as goal

pub returns : goal.returns
returns c =
    let p = c.put in
    let d = c.set_digits-from in
    let line = d.new.line in (
      put_rest line _ 21 d.result (search rules) (search rules) d.ensures.1 p.ensures.0,
      omega (arith, rest-length line 21 d.result, p.ensures.1),
    )
