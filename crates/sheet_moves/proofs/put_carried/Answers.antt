-- The answers that `sheet_moves::put_carried` wants beside its invariants. Assumes nothing.
use mathlib.Core.Path.{◌∙◌, refl, ap}
use native.Mathlib.Omega.{arith}
use lib.ListN.{length, drop}
use lib.Seq.{length-sets}
use Rattle.text_lines.proofs.Printed.{left-start, left-on, left_end}
use Rattle.day_sheet.specs.Calls.{entries_of}
use Rattle.sheet_moves.specs.Internal.{front_text}
use Rattle.sheet_moves.proofs.Carried.{ahead, none_ahead, stood-here, plainly-on, text-on, no_text}
use Rattle.sheet_moves.proofs.put_carried.Goals as goal

pub loop-e-init : goal.loop-e-init
loop-e-init c = (c.requires, left-start c.args.out.now 0 _, omega arith, refl)

pub put_entry-q-requires : goal.put_entry-q-requires
put_entry-q-requires c =
    let l = c.loop-e in
    let a = ahead c.args.from c.args.sheet.now l.at l.invariant.0.halfway c.in-Ok.ensures in
    (stood-here a l.invariant.0, omega (arith, a.inside, c.requires.halfway.within.short, l.invariant.2))

pub overflow_add-at : goal.overflow_add-at
overflow_add-at c =
    let l = c.loop-e in
    let a = ahead c.args.from c.args.sheet.now l.at l.invariant.0.halfway c.in-Ok.ensures in
    omega (arith, a.inside, c.requires.halfway.within.short)

pub loop-e-smaller : goal.loop-e-smaller
loop-e-smaller c =
    let l = c.loop-e in
    let a = ahead c.args.from c.args.sheet.now l.at l.invariant.0.halfway c.in-Ok.ensures in
    omega (arith, a.some, a.inside)

pub loop-e-preserved : goal.loop-e-preserved
loop-e-preserved c =
    let l = c.loop-e in
    let a = ahead c.args.from c.args.sheet.now l.at l.invariant.0.halfway c.in-Ok.ensures in
    let p = c.put_entry-q.ensures in (
      plainly-on a l.invariant.0,
      left-on (text-on a c.args.to) p.0 l.invariant.1,
      omega (arith, a.some, l.invariant.2, p.1),
      ap length p.0.stored ∙ length-sets l.out l.q (front_text c.args.to (entries_of c.args.from (drop l.at c.args.sheet.now))) ∙ l.invariant.3,
    )

pub returns : goal.returns
returns c =
    let l = c.loop-e in
    left_end (no_text c.args.to _ (none_ahead c.args.from c.args.sheet.now l.at l.invariant.0.halfway c.in_default.ensures)) l.invariant.1
