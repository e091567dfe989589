-- `words::options::put_one` meets its contract: its test. Assumes nothing.
use native.Mathlib.Omega.{arith}
use Rattle.words.proofs.Setting.{one_out, one_in}
use Rattle.words.proofs.options.put_one.Goals as goal

pub returns-then-not-is_in : goal.returns-then-not-is_in
returns-then-not-is_in c = one_out _ _ _ _ c.is_in.ensures.0 c.if-not-is_in.true c.bad.ensures

pub overflow_cast-number : goal.overflow_cast-number
overflow_cast-number c = omega (arith, c.is_in.ensures.1 c.if-not-is_in.false)

pub keep-requires : goal.keep-requires
keep-requires c = (c.is_in.ensures.1 c.if-not-is_in.false).0

pub returns : goal.returns
returns c = one_in _ _ _ _ c.is_in.ensures.0 c.if-not-is_in.false c.keep.ensures
