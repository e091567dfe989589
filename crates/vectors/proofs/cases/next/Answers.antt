-- `vectors::cases::next` meets its contract: each return stands where its tests put it in `whole`. Assumes nothing.
use Rattle.std.proofs.Common.{rules, ◌+◌, length}
use Rattle.std.proofs.lemmas.Bool.{lt-leb, le-leb}
use Rattle.vectors.specs.Cases.{head, end_of, next_in}
use Rattle.vectors.proofs.cases.next.Goals as goal
use Rattle.vectors.proofs.cases.next.Goals.{then-left-lt-HEAD-via-then-left-lt-HEAD, then-left-lt-HEAD-via-else-left-lt-HEAD+then-space-to}

pub returns-then-left-lt-HEAD : goal.returns-then-left-lt-HEAD
unfolding next_in
returns-then-left-lt-HEAD c =
    let a = c.args in
    elim c.then-left-lt-HEAD.branch [
      | then-left-lt-HEAD-via-then-left-lt-HEAD w ↦ simp (lt-leb (a.input.from + head) a.input.to (search rules), c.saturating_sub-left.ensures)
      | then-left-lt-HEAD-via-else-left-lt-HEAD+then-space-to w ↦
          simp (
            le-leb (a.input.from + head) a.input.to (search rules),
            lt-leb a.input.to (length a.space.now) w.if-space-to.true,
            c.saturating_sub-left.ensures,
          )
    ]

pub returns-then-left-size : goal.returns-then-left-size
unfolding next_in
returns-then-left-size c =
    let a = c.args in
    simp (
      le-leb (a.input.from + head) a.input.to (search rules),
      le-leb a.input.to (length a.space.now) (search rules),
      lt-leb (end_of a.space.now a.input.from) a.input.to (search rules),
      c.saturating_sub-left.ensures,
    )

pub returns : goal.returns
unfolding next_in
returns c =
    let a = c.args in
    rw (
      le-leb (a.input.from + head) a.input.to (search rules),
      le-leb a.input.to (length a.space.now) (search rules),
      le-leb (end_of a.space.now a.input.from) a.input.to (search rules),
      ← c.capped.ensures,
      ← c.capped-size.ensures,
    )
