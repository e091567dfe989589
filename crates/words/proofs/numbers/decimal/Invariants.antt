-- `words::numbers::decimal` meets its contract: the digits from here on, after the number so far, say what the whole word says. Assumes nothing.
use mathlib.Core.Path.{◌≡◌}
use Prim.Native.Nat.{◌≤◌}
use lib.ListN.{length, drop}
use Rattle.words.specs.Numbers.{decimal_from, decimal_of, most}
use Rattle.words.proofs.numbers.decimal.Given as goal

abbrev pub invariant-loop-b : goal.invariant-loop-b
invariant-loop-b l = (l.b-index ≤ length l.word) × (l.number ≤ most) × (decimal_from (drop l.b-index l.word) l.number ≡ decimal_of l.word)
