-- `text_lines::set_digits` meets its contract: the digits left with those set make the number's. The measure is what is left of the
-- number. Assumes nothing.
use mathlib.Core.Path.{◌≡◌}
use mathlib.Core.List.{◌++◌}
use Prim.Native.Nat.{◌^◌, ◌≤◌, ◌<◌}
use lib.ListN.{length, drop}
use Rattle.text_lines.specs.Lines.{digits_in, digit_most, decimal}
use Rattle.text_lines.proofs.set_digits.Given as goal

abbrev pub invariant-loop-m : goal.invariant-loop-m
invariant-loop-m l =
    (length l.line ≡ length l.initial.line) × (0 < l.at) × (l.at ≤ digit_most) × (l.m < 10 ^ l.at)
    × (digits_in l.at l.m ++ drop l.at l.line ≡ decimal l.n ++ drop digit_most l.initial.line)

abbrev pub decreases-loop-m : goal.decreases-loop-m
decreases-loop-m l = l.m
