-- The answers that `pes::scan` wants beside its invariants. Assumes nothing.
use borrow.Author.Rules.{rules}
use mathlib.Core.Path.{◌∙◌, sym, ap}
use mathlib.Core.Bool.{true, false}
use native.Mathlib.Nat.{zero-add}
use native.Mathlib.Omega.{arith}
use Rattle.std.specs.declared.result.Result.TheVariants.{Ok, Err}
use Rattle.answer.proofs.Handing.{handed}
use Rattle.units.specs.declared.DataUnit.{DataUnit}
use Rattle.units.proofs.Meets.{Whole, met_by, whole_moves, text-next}
use Rattle.pes.specs.Reading.{places, units_rules, records_of}
use Rattle.pes.proofs.Walk.{scan_step}
use Rattle.pes.proofs.scan.Goals as goal

pub loop-next-init : goal.loop-next-init
unfolding units_rules records_of places
loop-next-init c = (search rules, search rules, rw zero-add)

pub returns-in_err-unit_at : goal.returns-in_err-unit_at
returns-in_err-unit_at c =
    let l = c.loop-next in
    handed c.from_residual.ensures
    ∙ sym (scan_step _ l.at l.given (Err _) (met_by _ _ c.unit_at.ensures c.in_err-unit_at.was))
    ∙ l.invariant.2

pub returns-in-End : goal.returns-in-End
returns-in-End c =
    let l = c.loop-next in
    sym (scan_step _ l.at l.given (Ok DataUnit.End) (met_by _ _ c.unit_at.ensures (c.in_ok-unit_at.was ∙ ap Ok c.in-End.is))) ∙ l.invariant.2

pub loop-next-smaller-in-Text : goal.loop-next-smaller-in-Text
loop-next-smaller-in-Text c =
    let t : Whole c.args.pes.now c.loop-next.at c.in-Text.next false = met_by _ _ c.unit_at.ensures (c.in_ok-unit_at.was ∙ ap Ok c.in-Text.is) in
    omega (arith, t, text-next _ _ _ t)

pub loop-next-preserved-in-Text : goal.loop-next-preserved-in-Text
loop-next-preserved-in-Text c =
    let t : Whole c.args.pes.now c.loop-next.at c.in-Text.next false = met_by _ _ c.unit_at.ensures (c.in_ok-unit_at.was ∙ ap Ok c.in-Text.is) in
    let l = c.loop-next in
    let m = whole_moves _ _ _ _ t in
    (omega (arith, text-next _ _ _ t), omega arith, sym (scan_step _ l.at l.given (Ok (DataUnit.Text _)) t) ∙ l.invariant.2)

pub loop-next-smaller : goal.loop-next-smaller
loop-next-smaller c =
    let t : Whole c.args.pes.now c.loop-next.at c.in-Stuffing.next true = met_by _ _ c.unit_at.ensures (c.in_ok-unit_at.was ∙ ap Ok c.in-Stuffing.is) in
    omega (arith, t, whole_moves _ _ _ _ t)

pub loop-next-preserved : goal.loop-next-preserved
loop-next-preserved c =
    let t : Whole c.args.pes.now c.loop-next.at c.in-Stuffing.next true = met_by _ _ c.unit_at.ensures (c.in_ok-unit_at.was ∙ ap Ok c.in-Stuffing.is) in
    let l = c.loop-next in
    let m = whole_moves _ _ _ _ t in
    (omega arith, omega arith, sym (scan_step _ l.at l.given (Ok (DataUnit.Stuffing _)) t) ∙ l.invariant.2)
