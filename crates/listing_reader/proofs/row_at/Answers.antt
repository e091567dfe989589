-- The answers that `listing_reader::row_at` wants beside its invariants. Assumes nothing.
use mathlib.Core.Path.{◌∙◌}
use native.Mathlib.Omega.{arith}
use lib.ListN.{drop, length-drop}
use Rattle.listing_reader.specs.Reading.{words_of}
use Rattle.listing_reader.proofs.Walks.{row_from_lem, row_on, row-end}
use Rattle.listing_reader.proofs.row_at.Goals as goal

pub loop-long-init : goal.loop-long-init
loop-long-init c = (omega arith, c.requires.inside, omega arith, row_from_lem c.args.at (words_of c.args.kind (drop c.args.at c.args.sheet.now)))

pub words_at-requires : goal.words_at-requires
words_at-requires c = record { inside = c.loop-long.invariant.1; short = c.requires.short }

pub overflow_add-result : goal.overflow_add-result
overflow_add-result c =
    let loop = c.loop-long in
    let e = row-end c.args.sheet.now c.args.at loop.p c.args.kind loop.invariant.0 loop.count c.in-Err.end c.in-Err.ensures in
    omega (arith, loop.invariant.1, c.requires.short, simp length-drop at e.0)

pub overflow_sub-result : goal.overflow_sub-result
overflow_sub-result c = omega (arith, c.loop-long.invariant.0)

pub returns-in-Err : goal.returns-in-Err
returns-in-Err c =
    let loop = c.loop-long in
    let e = row-end c.args.sheet.now c.args.at loop.p c.args.kind loop.invariant.0 loop.count c.in-Err.end c.in-Err.ensures in
    let l = c.loop-long in
    (e.1 ∙ l.invariant.3, omega (arith, l.invariant.0, l.invariant.2))

pub overflow_add-count : goal.overflow_add-count
overflow_add-count c = omega (arith, c.loop-long.invariant.1, c.loop-long.invariant.2, c.requires.short)

pub overflow_add-p : goal.overflow_add-p
overflow_add-p c =
    let loop = c.loop-long in
    let e = row_on c.args.sheet.now c.args.at loop.p c.args.kind loop.invariant.0 loop.count c.in-Ok.long c.in-Ok.ensures in
    omega (arith, loop.invariant.1, c.requires.short, simp length-drop at e.1)

pub loop-long-smaller : goal.loop-long-smaller
loop-long-smaller c =
    let loop = c.loop-long in
    let e = row_on c.args.sheet.now c.args.at loop.p c.args.kind loop.invariant.0 loop.count c.in-Ok.long c.in-Ok.ensures in
    omega (arith, e.0, loop.invariant.1, simp length-drop at e.1)

pub loop-long-preserved : goal.loop-long-preserved
loop-long-preserved c =
    let loop = c.loop-long in
    let e = row_on c.args.sheet.now c.args.at loop.p c.args.kind loop.invariant.0 loop.count c.in-Ok.long c.in-Ok.ensures in
    let l = loop in (
      omega (arith, l.invariant.0),
      omega (arith, l.invariant.1, simp length-drop at e.1),
      omega (arith, e.0, l.invariant.0, l.invariant.2),
      e.2 ∙ l.invariant.3,
    )
