-- `day_sheet::dropping::drop_key` meets its contract: a law for each way. Assumes nothing.
use borrow.Author.Rules.{rules}
use mathlib.Core.Path.{◌∙◌}
use Prim.Native.Nat.{◌≤◌, ◌<◌}
use native.Mathlib.Omega.{arith}
use Rattle.day_sheet.specs.Internal.{most_with}
use Rattle.day_sheet.proofs.Around.{drop-inside, drop-many, drop-short, drop-done}
use Rattle.day_sheet.proofs.dropping.drop_key.Goals as goal

pub returns-then-most_with-count : goal.returns-then-most_with-count
returns-then-most_with-count c =
    let m : most_with c.find-spot.result.long < c.args.count = omega (arith, c.most_with.ensures, c.if-most_with-count.true) in
    let d = drop-many c.args.form c.args.key c.args.sheet.now c.args.out.now c.requires.0 c.requires.1 c.args.count c.requires.2 _ c.find-spot.ensures m in
    record {
      answer = c.refuse.ensures ∙ d.0;
      output = d.1;
    }

pub overflow_sub-n : goal.overflow_sub-n
overflow_sub-n c = omega (arith, drop-inside c.args.form c.args.key c.args.sheet.now c.args.out.now c.requires.0 c.requires.1 c.args.count c.requires.2 _ c.find-spot.ensures)

pub returns-then-out-n : goal.returns-then-out-n
returns-then-out-n c =
    let m : c.args.count ≤ most_with c.find-spot.result.long = omega (arith, c.most_with.ensures, c.if-most_with-count.false) in
    let d = drop-short c.args.form c.args.key c.args.sheet.now c.args.out.now c.requires.0 c.requires.1 c.args.count c.requires.2 _ c.find-spot.ensures m (search rules) in
    record {
      answer = c.refuse-then-out-n.ensures ∙ d.0;
      output = d.1;
    }

pub overflow_add-from : goal.overflow_add-from
overflow_add-from c = omega (arith, drop-inside c.args.form c.args.key c.args.sheet.now c.args.out.now c.requires.0 c.requires.1 c.args.count c.requires.2 _ c.find-spot.ensures)

pub overflow_sub-n-2 : goal.overflow_sub-n-2
overflow_sub-n-2 c = omega (arith, drop-inside c.args.form c.args.key c.args.sheet.now c.args.out.now c.requires.0 c.requires.1 c.args.count c.requires.2 _ c.find-spot.ensures)

pub returns : goal.returns
returns c =
    let m : c.args.count ≤ most_with c.find-spot.result.long = omega (arith, c.most_with.ensures, c.if-most_with-count.false) in
    let it = drop-done c.args.form c.args.key c.args.sheet.now c.args.out.now c.requires.0 c.requires.1 c.args.count c.requires.2 _ c.find-spot.ensures m (search rules) c.copy.ensures c.copy-2.ensures in
    record { answer = it.0; output = it.1 }
