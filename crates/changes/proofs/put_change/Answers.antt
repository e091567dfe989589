-- `changes::put_change` meets its contract: by which of the two there are. Assumes nothing.
use native.Mathlib.Omega.{arith}
use Rattle.text_lines.proofs.Printed.{then}
use Rattle.changes.specs.Internal.{turn_change}
use Rattle.changes.proofs.put_change.Goals as goal

pub returns-in-First : goal.returns-in-First
unfolding turn_change
returns-in-First c = rw c.in-First.is c.put_key.ensures.0

pub put_lines-requires : goal.put_lines-requires
put_lines-requires c = (rw c.in-Second.is at c.requires.0, omega (arith, c.requires.1, c.put_key-at.ensures.1))

pub returns-in-Second : goal.returns-in-Second
unfolding turn_change
returns-in-Second c = rw c.in-Second.is (then c.put_key-at.ensures.0 c.put_lines.ensures.0)

pub returns-in-Both : goal.returns-in-Both
unfolding turn_change
returns-in-Both c = rw c.in-Both.is c.put_both.ensures
