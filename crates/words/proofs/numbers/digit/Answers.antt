-- `words::numbers::digit` meets its contract: each arm is one of the three ranges, or lies between them. Assumes nothing.
use borrow.Author.Tests.{le-leb, lt-leb}
use native.Mathlib.Omega.{arith}
use Rattle.std.proofs.lemmas.Bool.Decides.{nat_tests}
use Rattle.words.specs.Numbers.{digit_of}
use Rattle.words.proofs.numbers.digit.Goals as goal

pub returns-in-48-to-57 : goal.returns-in-48-to-57
unfolding digit_of
returns-in-48-to-57 c = let b = c.args.b in simp (le-leb 48 b (omega arith), le-leb b 57 (omega arith)) (omega arith)

pub returns-in-65-to-70 : goal.returns-in-65-to-70
unfolding digit_of
returns-in-65-to-70 c = let b = c.args.b in simp (le-leb 48 b (omega arith), lt-leb b 57 (omega arith), le-leb 65 b (omega arith), le-leb b 70 (omega arith)) (omega arith)

pub returns-in-97-to-102 : goal.returns-in-97-to-102
unfolding digit_of
returns-in-97-to-102 c = let b = c.args.b in simp (le-leb 48 b (omega arith), lt-leb b 57 (omega arith), le-leb 65 b (omega arith), lt-leb b 70 (omega arith), le-leb 97 b (omega arith), le-leb b 102 (omega arith)) (omega arith)

pub returns-in_default : goal.returns-in_default
unfolding digit_of
returns-in_default c = grind (arith, nat_tests)

pub returns-in_default-2 : goal.returns-in_default-2
unfolding digit_of
returns-in_default-2 c = grind (arith, nat_tests)

pub returns-in_default-3 : goal.returns-in_default-3
unfolding digit_of
returns-in_default-3 c = grind (arith, nat_tests)

pub returns-in_default-4 : goal.returns-in_default-4
unfolding digit_of
returns-in_default-4 c = grind (arith, nat_tests)
