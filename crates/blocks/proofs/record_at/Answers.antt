-- `blocks::record_at` meets its contract: each `return` is one of the five ends of a look at a place. Assumes nothing.
use borrow.Author.Rules.{rules}
use Prim.Native.Nat.{◌+◌}
use native.Mathlib.Omega.{arith}
use Rattle.blocks.proofs.Placing.{at-end, past, left-short, left_over, left-whole}
use Rattle.blocks.proofs.record_at.Goals as goal

pub returns-then-place-records : goal.returns-then-place-records
returns-then-place-records c = at-end _ _ c.if-place-records.true

pub returns-then-records-place : goal.returns-then-records-place
returns-then-records-place c = past _ _ c.if-records-place.true

pub returns-then-left-lt-HEAD : goal.returns-then-left-lt-HEAD
returns-then-left-lt-HEAD c = left-short _ _ (search rules) c.if-left-lt-HEAD.true

pub overflow_cast-low : goal.overflow_cast-low
overflow_cast-low c = omega (arith, c.type_inv.records c.args.place)

pub overflow_cast-high : goal.overflow_cast-high
overflow_cast-high c = omega (arith, c.type_inv.records (c.args.place + 1))

pub overflow_mul-head : goal.overflow_mul-head
overflow_mul-head c = omega (arith, c.type_inv.records (c.args.place + 1))

pub overflow_add-head : goal.overflow_add-head
overflow_add-head c =
    let n = c.args.place in
    omega (arith, c.type_inv.records n, c.type_inv.records (n + 1))

pub overflow_cast-size : goal.overflow_cast-size
overflow_cast-size c =
    let n = c.args.place in
    omega (arith, c.type_inv.records n, c.type_inv.records (n + 1))

pub returns-then-left-size : goal.returns-then-left-size
returns-then-left-size c = left_over _ _ (search rules) c.if-left-size.true

pub returns : goal.returns
returns c = left-whole _ _ (search rules) (search rules) c.if-left-size.false
