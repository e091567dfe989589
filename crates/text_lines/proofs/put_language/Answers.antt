-- `text_lines::put_language` meets its contract: name, language, end of line. Assumes nothing.
use borrow.Author.Rules.{rules}
use mathlib.Core.List.{[], ◌∷◌}
use Rattle.text_lines.specs.Lines.{language_line, language_name, language_of}
use Rattle.text_lines.proofs.Printed.{put-past, put_line}
use Rattle.text_lines.proofs.put_language.Goals as goal

pub returns-then-q-gt-REACH : goal.returns-then-q-gt-REACH
returns-then-q-gt-REACH c = (put-past _ _ _ c.if-q-gt-REACH.true, search rules)

pub returns : goal.returns
unfolding language_line
returns c =
    let b = c.put_name in
    (put_line language_name (language_of c.args.w) (10 ∷ []) (search rules) (search rules) c.put-at.ensures.0 b.ensures.0, search rules)
