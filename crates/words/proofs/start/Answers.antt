-- `words::start` meets its contract: its test. Assumes nothing.
use borrow.Author.Tests.{eq-eqb, ne_eqb}
use Rattle.words.specs.Words.{start_said}
use Rattle.words.proofs.start.Goals as goal

pub returns-then-byte_at-eq32 : goal.returns-then-byte_at-eq32
unfolding start_said
returns-then-byte_at-eq32 c = simp (← c.byte_at.ensures, eq-eqb _ _ c.if-byte_at-eq32.true)

pub returns-else-byte_at-eq32 : goal.returns-else-byte_at-eq32
unfolding start_said
returns-else-byte_at-eq32 c = simp (← c.byte_at.ensures, ne_eqb _ _ c.if-byte_at-eq32.false)
