-- `vectors::words::put_hex` meets its contract: the place stays within the text. Assumes nothing.
use Rattle.std.proofs.Common.{◌≤◌, length}
use Rattle.vectors.proofs.words.put_hex.Given as goal

abbrev pub invariant-loop-b : goal.invariant-loop-b
invariant-loop-b l = l.to ≤ length l.text
