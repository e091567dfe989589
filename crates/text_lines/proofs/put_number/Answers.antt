-- `text_lines::put_number` meets its contract: name, number, end of line. Assumes nothing.
use borrow.Author.Rules.{rules}
use mathlib.Core.List.{[], ◌∷◌}
use Rattle.text_lines.specs.Lines.{number_line, decimal}
use Rattle.text_lines.proofs.Printed.{put-past, put_line}
use Rattle.text_lines.proofs.put_number.Goals as goal

pub returns-then-q-gt-REACH : goal.returns-then-q-gt-REACH
returns-then-q-gt-REACH c = (put-past _ _ _ c.if-q-gt-REACH.true, search rules)

pub returns : goal.returns
unfolding number_line
returns c =
    let b = c.put_decimal in
    (put_line c.args.name.now (decimal c.args.n) (10 ∷ []) (search rules) (search rules) c.put-at.ensures.0 b.ensures.0, search rules)
