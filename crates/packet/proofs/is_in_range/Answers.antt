-- `packet::is_in_range` meets its contract: its tests in order. Assumes nothing.
use native.Mathlib.Omega.{arith}
use borrow.Author.Tests.{le-leb, lt-leb}
use Rattle.laws.proofs.Tests.{both_false}
use Rattle.packet.specs.Setting.{in_range}
use Rattle.packet.proofs.is_in_range.Goals as goal

pub returns-then-s-lt1 : goal.returns-then-s-lt1
unfolding in_range
returns-then-s-lt1 c = let s = c.args.s in simp (lt-leb 1 s.magazine (omega arith))

pub returns-then-s-gt8 : goal.returns-then-s-gt8
unfolding in_range
returns-then-s-gt8 c = let s = c.args.s in simp (lt-leb s.magazine 8 (omega arith), both_false)

pub returns-then-s-gt15 : goal.returns-then-s-gt15
unfolding in_range
returns-then-s-gt15 c = let s = c.args.s in simp (lt-leb s.stream 15 (omega arith), both_false)

pub returns : goal.returns
unfolding in_range
returns c =
    let s = c.args.s in
    simp (
      le-leb 1 s.magazine (omega arith),
      le-leb s.magazine 8 (omega arith),
      le-leb s.page 255 (omega arith),
      le-leb s.stream 15 (omega arith),
    )
