-- `text_lines::put_hex` meets its contract: two digits for each of three bytes and the line's end, put at once. Assumes nothing.
use borrow.Author.Rules.{rules}
use Rattle.text_lines.proofs.Putting.{put-at}
use Rattle.text_lines.specs.Lines.{hexed, word_bytes}
use Rattle.text_lines.proofs.put_hex.Goals as goal

pub returns : goal.returns
unfolding hexed word_bytes
returns c =
    let p = c.put in (
      rw (
        ← c.digit.ensures,
        ← c.digit-2.ensures,
        ← c.digit-3.ensures,
        ← c.digit-4.ensures,
        ← c.digit-5.ensures,
        ← c.digit-6.ensures,
      ) (put-at (search rules) p.ensures.0),
      search rules,
    )
