-- The answers that `listing_reader::lines::number_from` wants beside its invariants. Assumes nothing.
use borrow.Author.Rules.{rules}
use mathlib.Core.Path.{◌∙◌, sym}
use native.Mathlib.Omega.{arith}
use native.Mathlib.Nat.{add-zero}
use lib.ListN.{drop_of_length-le}
use Rattle.listing_reader.specs.Lines.{number_from}
use Rattle.listing_reader.proofs.Matching.{powers, digit-more, number-ends, number-goes, number-done}
use Rattle.listing_reader.proofs.lines.number_from.Goals as goal

pub returns-then-sheet-from : goal.returns-then-sheet-from
unfolding number_from
returns-then-sheet-from c = rw (drop_of_length-le c.args.sheet.now c.if-sheet-from.true)

pub loop-seen-init : goal.loop-seen-init
loop-seen-init c = (search rules, search rules, rw add-zero)

pub returns-then-b-lt48 : goal.returns-then-b-lt48
returns-then-b-lt48 c =
    let l = c.loop-seen in
    sym (number-ends c.args.sheet.now c.args.from l.seen l.n c.loop-seen-test.true c.byte_at-b.ensures.0 c.then-b-lt48.either) ∙ l.invariant.2

pub overflow_mul-n : goal.overflow_mul-n
overflow_mul-n c =
    let l = c.loop-seen in
    omega (arith, powers l.seen (omega (arith, c.loop-seen-test.true)), l.invariant.1)

pub overflow_add-n : goal.overflow_add-n
overflow_add-n c =
    let l = c.loop-seen in
    omega (arith, powers l.seen (omega (arith, c.loop-seen-test.true)), l.invariant.1)

pub loop-seen-preserved : goal.loop-seen-preserved
loop-seen-preserved c =
    let l = c.loop-seen in (
      l.invariant.0,
      digit-more l.seen l.n c.byte_at-b.result l.invariant.1 c.if-b-gt57.false,
      number-goes c.args.sheet.now c.args.from l.seen l.n c.loop-seen-test.true c.byte_at-b.ensures.0 c.if-b-lt48.false c.if-b-gt57.false
          ∙ l.invariant.2,
    )

pub returns : goal.returns
returns c = let l = c.loop-seen in sym (number-done l.n l.seen _ (search rules)) ∙ l.invariant.2
