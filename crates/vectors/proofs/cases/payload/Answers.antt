-- `vectors::cases::payload` meets its contract, by its two tests. Assumes nothing.
use Rattle.std.proofs.lemmas.Bool.{lt-leb, le-leb}
use Rattle.vectors.specs.Cases.{part}
use Rattle.vectors.proofs.cases.payload.Goals as goal
use Rattle.vectors.proofs.cases.payload.Goals.{else-from-to-via-then-from-to+else-to-space, else-from-to-via-else-from-to}

pub returns-then-to-space : goal.returns-then-to-space
unfolding part
returns-then-to-space c = simp (le-leb _ _ c.if-from-to.true, le-leb _ _ c.if-to-space.true)

pub returns-else-from-to : goal.returns-else-from-to
unfolding part
returns-else-from-to c =
    elim c.else-from-to.branch [
      | else-from-to-via-then-from-to+else-to-space w ↦ simp (le-leb _ _ w.if-from-to.true, lt-leb _ _ w.if-to-space.false)
      | else-from-to-via-else-from-to w ↦ simp (lt-leb _ _ w.if-from-to.false)
    ]
