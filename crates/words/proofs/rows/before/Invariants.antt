-- `words::rows::before` meets its contract: what was passed and what stands before the byte from here on are all that stands before it. Assumes nothing.
use mathlib.Core.Path.{◌≡◌}
use Prim.Native.Nat.{◌+◌, ◌≤◌}
use lib.ListN.{length, drop}
use Rattle.words.specs.Rows.{before}
use Rattle.words.proofs.rows.before.Given as goal

abbrev pub invariant-loop-i : goal.invariant-loop-i
invariant-loop-i l = (l.i ≤ length l.text) × (l.i + before l.b (drop l.i l.text) ≡ before l.b l.text)
