-- `texts::entries` meets its contract: the lines counted and those left are all. Assumes nothing.
use Rattle.std.proofs.Common.{◌≡◌, ◌+◌, ◌≤◌, drop}
use Rattle.texts.specs.Texts.{empty_from, empty_lines}
use Rattle.texts.proofs.entries.Given as goal

abbrev pub invariant-loop-b : goal.invariant-loop-b
invariant-loop-b l = (l.count ≤ l.b-index) × (l.count + empty_from (drop l.b-index l.text) l.is_end ≡ empty_lines l.text)
