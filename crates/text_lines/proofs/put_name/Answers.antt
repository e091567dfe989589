-- `text_lines::put_name` meets its contract: by cases on the letters. Assumes nothing.
use borrow.Author.Rules.{rules}
use mathlib.Core.Path.{◌∙◌, sym}
use Rattle.text_lines.proofs.Putting.{put-at}
use Rattle.text_lines.specs.Lines.{language_of, word_bytes}
use Rattle.text_lines.proofs.put_name.Goals as goal

pub returns-then-not-letters : goal.returns-then-not-letters
unfolding language_of
returns-then-not-letters c =
    let p = c.put_hex in
    (rw (sym c.letters.ensures ∙ c.if-not-letters.true) p.ensures.0, p.ensures.1)

pub returns : goal.returns
unfolding language_of word_bytes
returns c =
    let p = c.put in
    (rw (sym c.letters.ensures ∙ c.if-not-letters.false) (put-at (search rules) p.ensures.0), search rules)
