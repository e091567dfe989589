-- `blocks::frames::judge` meets its contract: each `return` is the first rule that doesn't hold, and the last is all of them.
-- Assumes nothing.
use borrow.Author.Rules.{rules}
use mathlib.Core.Path.{◌∙◌, sym}
use Rattle.blocks.proofs.Judging.{frame-16, frame-13, frame-part, frame-second, frame-12, frame-13', frame-done}
use Rattle.answer.specs.Values.{refused}
use Rattle.blocks.proofs.frames.judge.Goals as goal

pub returns-then-application-ge32 : goal.returns-then-application-ge32
returns-then-application-ge32 c = c.refuse.ensures ∙ sym (frame-16 refused _ _ _ _ _ _ (search rules))

pub returns-then-rec-head : goal.returns-then-rec-head
returns-then-rec-head c =
    rw (← c.head_of-head.ensures.0)
    (c.refuse-then-rec-head.ensures ∙ sym (frame-13 refused _ _ _ _ _ _ (search rules) c.if-rec-head.true))

pub returns-then-rec-gt5 : goal.returns-then-rec-gt5
returns-then-rec-gt5 c =
    rw (← c.head_of-head.ensures.0)
    (c.refuse-then-rec-gt5.ensures ∙ sym (frame-part refused _ _ _ _ _ _ (search rules) c.if-rec-head.false (search rules)))

pub returns-then-rec-gt1 : goal.returns-then-rec-gt1
returns-then-rec-gt1 c =
    rw (← c.head_of-head.ensures.0)
    (c.refuse-then-rec-gt1.ensures
    ∙ sym
    (frame-second refused _ _ _ _ _ _ (search rules) c.if-rec-head.false (search rules) (search rules)))

pub returns-then-head-application : goal.returns-then-head-application
returns-then-head-application c =
    rw (← c.head_of-head.ensures.0)
    (c.refuse-then-head-application.ensures
    ∙ sym
    (frame-12 refused _ _ _ _ _ _ (search rules) c.if-rec-head.false (search rules) (search rules) c.if-head-application.true))

pub returns-then-head-lt8 : goal.returns-then-head-lt8
returns-then-head-lt8 c =
    rw (← c.head_of-head.ensures.0)
    (c.refuse-then-head-lt8.ensures
    ∙ sym
    (frame-13' refused _ _ _ _ _ _ (search rules) c.if-rec-head.false (search rules) (search rules) c.if-head-application.false
    c.if-head-lt8.true))

pub returns : goal.returns
returns c =
    rw (← c.head_of-head.ensures.0)
    (sym
    (frame-done refused _ _ _ _ _ _ (search rules) c.if-rec-head.false (search rules) (search rules) c.if-head-application.false c.if-head-lt8.false))
