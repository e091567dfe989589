-- `sheet_moves::carry_counted` meets its contract: a law for each way. Assumes nothing.
use borrow.Author.Rules.{rules}
use mathlib.Core.Path.{◌∙◌}
use native.Mathlib.Omega.{arith}
use Rattle.sheet_moves.proofs.Carried.{carried-many, carried-size, carried-long, carried-short, carried-done}
use Rattle.sheet_moves.proofs.carry_counted.Goals as goal

pub returns-then-count-gt-ENTRIES : goal.returns-then-count-gt-ENTRIES
returns-then-count-gt-ENTRIES c =
    let a = c.args in
    let d = carried-many a.from a.to a.sheet.now a.out.now c.requires.0 a.count c.requires.2 (search rules) in
    record {
      answer = c.refuse.ensures ∙ d.0;
      output = d.1;
    }

pub overflow_sub-n : goal.overflow_sub-n
overflow_sub-n c =
    let a = c.args in
    omega (arith, (carried-size a.from a.to a.sheet.now a.out.now c.requires.0 a.count c.requires.2 c.marks-less.ensures.0 c.marks-more.ensures.0).0)

pub returns-then-limit-n : goal.returns-then-limit-n
returns-then-limit-n c =
    let a = c.args in
    let d = carried-long a.from a.to a.sheet.now a.out.now c.requires.0 a.count c.requires.2 c.marks-less.ensures.0 c.marks-more.ensures.0 (search rules) (omega (arith, c.limit.ensures.0, c.if-limit-n.true)) in
    record {
      answer = c.refuse-then-limit-n.ensures ∙ d.0;
      output = d.1;
    }

pub returns-then-out-n : goal.returns-then-out-n
returns-then-out-n c =
    let a = c.args in
    let d = carried-short a.from a.to a.sheet.now a.out.now c.requires.0 a.count c.requires.2 c.marks-less.ensures.0 c.marks-more.ensures.0 (search rules) (omega (arith, c.limit.ensures.0, c.if-limit-n.false)) (search rules) in
    record {
      answer = c.refuse-then-out-n.ensures ∙ d.0;
      output = d.1;
    }

pub returns : goal.returns
returns c =
    let a = c.args in
    let it = carried-done a.from a.to a.sheet.now a.out.now c.requires.0 a.count c.requires.2 c.marks-less.ensures.0 c.marks-more.ensures.0 (search rules) (omega (arith, c.limit.ensures.0, c.if-limit-n.false)) (search rules) c.put_carried.ensures in
    record { answer = it.0; output = it.1 }
