-- `words::rows::row_of` meets its contract: the row is found in what is left from here, or it was found. Assumes nothing.
use mathlib.Core.Path.{◌≡◌}
use Prim.Native.Nat.{◌≤◌}
use lib.ListN.{length, drop}
use Rattle.words.specs.Rows.{row_from, row_of}
use Rattle.words.proofs.rows.row_of.Given as goal

abbrev pub invariant-loop-i : goal.invariant-loop-i
invariant-loop-i l = (l.i ≤ length l.tasks) × (row_from (drop l.i l.tasks) l.begins l.i l.word ≡ row_of l.tasks l.word)
