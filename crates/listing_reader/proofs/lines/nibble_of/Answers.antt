-- `listing_reader::lines::nibble_of` meets its contract: by cases on the test. Assumes nothing.
use borrow.Author.Tests.{lt-ltb, le-ltb}
use native.Mathlib.Omega.{arith}
use Rattle.listing_reader.specs.Lines.{nibble_of}
use Rattle.listing_reader.proofs.lines.nibble_of.Goals as goal

pub returns-then-b-lt58 : goal.returns-then-b-lt58
unfolding nibble_of
returns-then-b-lt58 c = (rw (lt-ltb _ _ c.if-b-lt58.true) c.saturating_sub.ensures, omega (arith, c.saturating_sub.ensures))

pub returns-else-b-lt58 : goal.returns-else-b-lt58
unfolding nibble_of
returns-else-b-lt58 c =
    let s = c.saturating_sub-else-b-lt58.ensures in
    (rw (le-ltb _ _ c.if-b-lt58.false) s, omega (arith, s, c.requires))
