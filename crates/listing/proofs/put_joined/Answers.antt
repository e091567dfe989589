-- `listing::put_joined` meets its contract: by cases on the byte. Assumes nothing.
use borrow.Author.Rules.{rules}
use borrow.Author.Tests.{eq-eqb, ne_eqb}
use mathlib.Core.Path.{◌≡◌, ◌∙◌, ap}
use native.Mathlib.Omega.{arith}
use Rattle.text_lines.specs.Lines.{number_line}
use Rattle.text_lines.proofs.Printed.{put_as, put-none, put-there}
use Rattle.listing.specs.Lines.{joined_name, joined_line}
use Rattle.listing.proofs.put_joined.Goals as goal

pub returns-then-second-ne1 : goal.returns-then-second-ne1
unfolding joined_line
returns-then-second-ne1 c =
    let a = c.args in
    (put_as (simp (ne_eqb a.second 1 (λ e. omega arith))) (put-none a.out.now a.q), omega arith)

pub returns : goal.returns
unfolding joined_line
returns c =
    let p = c.put_number.ensures in
    let s = c.args.second in
    let e : s ≡ 1 = omega arith in (
      put_as (ap (number_line joined_name) e ∙ simp (eq-eqb s 1 e)) (put-there (search rules) p.0),
      omega (arith, p.1),
    )
