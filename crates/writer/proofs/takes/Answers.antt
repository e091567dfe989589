-- `writer::takes` meets its contract: each `return` is by the tests that led there. Assumes nothing.
use borrow.Author.Tests.{le-leb, lt-leb}
use Rattle.writer.proofs.takes.Goals as goal

pub returns-then-not-is_in_range : goal.returns-then-not-is_in_range
returns-then-not-is_in_range c = rw (← c.is_in_range.ensures, c.if-not-is_in_range.true)

pub returns-then-index-gt15 : goal.returns-then-index-gt15
returns-then-index-gt15 c =
    let r = c.is_in_range in
    rw (← r.ensures, c.if-not-is_in_range.false, lt-leb c.args.index 15 c.if-index-gt15.true)

pub returns-then-k-lt1 : goal.returns-then-k-lt1
returns-then-k-lt1 c =
    let a = c.args in
    let r = c.is_in_range in
    let set = c.if-not-is_in_range.false in
    rw (← r.ensures, set, le-leb a.index 15 c.if-index-gt15.false, lt-leb 1 a.k c.if-k-lt1.true)

pub returns : goal.returns
returns c =
    let a = c.args in
    let r = c.is_in_range in
    let set = c.if-not-is_in_range.false in
    rw (← r.ensures, set, le-leb a.index 15 c.if-index-gt15.false, le-leb 1 a.k c.if-k-lt1.false)
