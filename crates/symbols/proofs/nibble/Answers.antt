-- `symbols::nibble` meets its contract: a nibble of a number is that of its sixteenth, one place lower. Assumes nothing.
use mathlib.Core.Path.{◌≡◌}
use native.Mathlib.Omega.{arith}
use Rattle.symbols.specs.Internal.{nibble_of}
use Rattle.symbols.proofs.nibble.Goals as goal

pub returns-in-0 : goal.returns-in-0
unfolding nibble_of
returns-in-0 c = rw c.in-0.is

pub returns-in-1 : goal.returns-in-1
unfolding nibble_of
returns-in-1 c = rw c.in-1.is

pub returns-in-2 : goal.returns-in-2
unfolding nibble_of
returns-in-2 c = rw c.in-2.is

pub returns-in_default : goal.returns-in_default
unfolding nibble_of
returns-in_default c = let e : c.args.i ≡ 3 = omega arith in rw e
