-- `listing::put_kind` meets its contract: by cases on the kind. Assumes nothing.
use borrow.Author.Rules.{rules}
use borrow.Author.Tests.{eq-eqb, ne_eqb}
use Rattle.listing.specs.Lines.{kind_ti, kind_li, kind_line}
use Rattle.text_lines.proofs.Putting.{put_as, put-at}
use Rattle.text_lines.proofs.Printed.{put-past, put-within}
use Rattle.listing.proofs.put_kind.Goals as goal

pub returns-then-q-gt-REACH : goal.returns-then-q-gt-REACH
returns-then-q-gt-REACH c = (put-past _ _ _ c.if-q-gt-REACH.true, search rules)

pub returns-then-kind-eq-TI : goal.returns-then-kind-eq-TI
unfolding kind_line
returns-then-kind-eq-TI c =
    let p = c.put.ensures in
    (put-within (search rules) (put_as {xs = kind_ti} (simp (eq-eqb _ _ c.if-kind-eq-TI.true)) (put-at (search rules) p.0)), p.1)

pub returns-else-kind-eq-TI : goal.returns-else-kind-eq-TI
unfolding kind_line
returns-else-kind-eq-TI c =
    let p = c.put-else-kind-eq-TI.ensures in
    (put-within (search rules) (put_as {xs = kind_li} (simp (ne_eqb _ _ c.if-kind-eq-TI.false)) (put-at (search rules) p.0)), p.1)
