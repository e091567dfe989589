-- `changes::lines::put_word` meets its contract: by cases on the kind. Assumes nothing.
use borrow.Author.Rules.{rules}
use Rattle.text_lines.specs.Codes.{codes}
use Rattle.text_lines.proofs.Putting.{put_as, put-at}
use Rattle.changes.proofs.Putting.{word-ti, word-li}
use Rattle.changes.proofs.lines.put_word.Goals as goal

pub returns-then-key-eq1 : goal.returns-then-key-eq1
returns-then-key-eq1 c =
    let p = c.put.ensures in
    (put_as {xs = codes "TI,"} (word-ti _ c.if-key-eq1.true) (put-at (search rules) p.0), p.1)

pub returns-else-key-eq1 : goal.returns-else-key-eq1
returns-else-key-eq1 c =
    let p = c.put-else-key-eq1.ensures in
    (put_as {xs = codes "LI,"} (word-li _ c.if-key-eq1.false) (put-at (search rules) p.0), p.1)
