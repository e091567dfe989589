-- `words::options::put_two` meets its contract: its tests in order. Assumes nothing.
use native.Mathlib.Omega.{arith}
use Rattle.words.proofs.Setting.{first_out, second-out, same-twice, two_in}
use Rattle.words.proofs.options.put_two.Goals as goal

pub returns-then-not-is_in : goal.returns-then-not-is_in
returns-then-not-is_in c = first_out _ _ _ _ c.is_in.ensures.0 c.args.second c.if-not-is_in.true c.bad.ensures

pub returns-then-not-is_in-2 : goal.returns-then-not-is_in-2
returns-then-not-is_in-2 c = second-out _ _ _ _ c.is_in.ensures.0 _ c.if-not-is_in.false c.is_in-2.ensures.0 c.if-not-is_in-2.true c.bad-then-not-is_in-2.ensures

pub returns-then-first-second : goal.returns-then-first-second
returns-then-first-second c = same-twice _ _ _ _ c.is_in.ensures.0 _ c.if-not-is_in.false c.is_in-2.ensures.0 c.if-not-is_in-2.false c.if-first-second.true c.bad-then-first-second.ensures

pub overflow_cast-first : goal.overflow_cast-first
overflow_cast-first c = omega (arith, c.is_in.ensures.1 c.if-not-is_in.false)

pub overflow_cast-second : goal.overflow_cast-second
overflow_cast-second c = omega (arith, c.is_in-2.ensures.1 c.if-not-is_in-2.false)

pub keep-requires : goal.keep-requires
keep-requires c = (c.is_in.ensures.1 c.if-not-is_in.false).0

pub returns : goal.returns
returns c = two_in _ _ _ _ c.is_in.ensures.0 _ c.if-not-is_in.false c.is_in-2.ensures.0 c.if-not-is_in-2.false c.if-first-second.false c.keep.ensures
