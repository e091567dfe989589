-- The answers that `day_sheet::entries::read` wants beside its invariants. Assumes nothing.
use mathlib.Core.Path.{◌∙◌, sym, ap}
use native.Mathlib.Omega.{arith}
use lib.ListN.{length-drop}
use Rattle.std.specs.declared.result.Result.TheVariants.{Err}
use Rattle.day_sheet.proofs.Walking.{sheet-on, sheet-end, sheet-fault}
use Rattle.day_sheet.proofs.entries.read.Goals as goal

pub returns-in-Err-End : goal.returns-in-Err-End
returns-in-Err-End c =
    let loop = c.loop-e in
    sheet-end c.args.form c.args.sheet.now loop.at loop.least loop.count (ap Err (sym c.in-Err-End.field-0-is) ∙ c.in-Err-End.ensures) ∙ loop.invariant.2

pub overflow_add-result : goal.overflow_add-result
overflow_add-result c =
    let loop = c.loop-e in
    let e = sheet-fault c.args.form c.args.sheet.now loop.at loop.least loop.count (ap Err (sym c.in-Err-Fault.field-0-is) ∙ c.in-Err-Fault.ensures) in
    omega (arith, loop.invariant.0, c.requires.short, simp length-drop at e.0)

pub returns-in-Err-Fault : goal.returns-in-Err-Fault
returns-in-Err-Fault c =
    let loop = c.loop-e in
    let e = sheet-fault c.args.form c.args.sheet.now loop.at loop.least loop.count (ap Err (sym c.in-Err-Fault.field-0-is) ∙ c.in-Err-Fault.ensures) in
    rw c.in-Err-Fault.field-0-is (e.1 ∙ loop.invariant.2)

pub overflow_add-at : goal.overflow_add-at
overflow_add-at c =
    let loop = c.loop-e in
    let e = sheet-on c.args.form c.args.sheet.now loop.at loop.least loop.count c.in-Ok.ensures in
    omega (arith, loop.invariant.0, c.requires.short, simp length-drop at e.1)

pub overflow_add-least : goal.overflow_add-least
overflow_add-least c =
    let loop = c.loop-e in
    let e = sheet-on c.args.form c.args.sheet.now loop.at loop.least loop.count c.in-Ok.ensures in
    omega (arith, e.2)

pub loop-e-smaller : goal.loop-e-smaller
loop-e-smaller c =
    let loop = c.loop-e in
    let e = sheet-on c.args.form c.args.sheet.now loop.at loop.least loop.count c.in-Ok.ensures in
    omega (arith, e.0, loop.invariant.0, simp length-drop at e.1)

pub loop-e-preserved : goal.loop-e-preserved
loop-e-preserved c =
    let loop = c.loop-e in
    let e = sheet-on c.args.form c.args.sheet.now loop.at loop.least loop.count c.in-Ok.ensures in
    (omega (arith, loop.invariant.0, simp length-drop at e.1), omega (arith, e.0, loop.invariant.1), e.3 ∙ loop.invariant.2)
