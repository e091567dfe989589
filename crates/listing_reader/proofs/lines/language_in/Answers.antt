-- `listing_reader::lines::language_in` meets its contract: by the test. Assumes nothing.
use borrow.Author.Tests.{eq-eqb, ne_eqb}
use mathlib.Core.Path.{◌∙◌, sym}
use Rattle.listing_reader.specs.Lines.{language_in}
use Rattle.listing_reader.proofs.lines.language_in.Goals as goal

pub returns-then-byte_at-eq10 : goal.returns-then-byte_at-eq10
unfolding language_in
returns-then-byte_at-eq10 c = rw (eq-eqb _ _ (sym c.byte_at.ensures.0 ∙ c.if-byte_at-eq10.true)) c.word_at.ensures.0

pub returns-else-byte_at-eq10 : goal.returns-else-byte_at-eq10
unfolding language_in
returns-else-byte_at-eq10 c = rw (ne_eqb _ _ (λ e. c.if-byte_at-eq10.false (c.byte_at.ensures.0 ∙ e))) c.hex_word.ensures
