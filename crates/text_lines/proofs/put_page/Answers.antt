-- `text_lines::put_page` meets its contract: name, digits, end of line. Assumes nothing.
use borrow.Author.Rules.{rules}
use mathlib.Core.List.{[], ◌∷◌}
use Rattle.text_lines.specs.Lines.{page_line, page_name, hexed, word_bytes}
use Rattle.text_lines.proofs.Printed.{put-past, put_line}
use Rattle.text_lines.proofs.put_page.Goals as goal

pub returns-then-q-gt-REACH : goal.returns-then-q-gt-REACH
returns-then-q-gt-REACH c = (put-past _ _ _ c.if-q-gt-REACH.true, search rules)

pub returns : goal.returns
unfolding page_line
returns c =
    let b = c.put_hex in
    (put_line page_name (hexed (word_bytes c.args.w)) (10 ∷ []) (search rules) (search rules) c.put-at.ensures.0 b.ensures.0, search rules)
