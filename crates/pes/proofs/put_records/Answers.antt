-- The answers that `pes::put_records` wants beside its invariants. Assumes nothing.
use mathlib.Core.Path.{◌∙◌, ap}
use mathlib.Core.Bool.{true, false}
use native.Mathlib.Omega.{arith}
use Rattle.std.specs.declared.result.Result.TheVariants.{Ok}
use Rattle.units.proofs.Meets.{Whole, met_by, whole_moves, text-next, text_unit}
use Rattle.pes.specs.Reading.{places, records_of}
use Rattle.pes.proofs.Walk.{record_length_lem, lawful-met}
use Rattle.pes.proofs.Filling.{filled-start, filled-end, filled-stuffing, filled-room, filled-text}
use Rattle.pes.proofs.put_records.Goals as goal

pub loop-unit-init : goal.loop-unit-init
unfolding records_of places
loop-unit-init c = filled-start _ _ _ c.requires.0 c.requires.1

pub returns-in-End : goal.returns-in-End
unfolding records_of places
returns-in-End c =
    filled-end _ _ _ _ _ _ c.loop-unit.invariant (met_by _ _ c.unit_at.ensures (c.in-Ok.is ∙ ap Ok c.in-End.is))

pub put_record-requires : goal.put_record-requires
put_record-requires c =
    let t : Whole c.args.pes.now c.loop-unit.at c.in-Text.next false = met_by _ _ c.unit_at.ensures (c.in-Ok.is ∙ ap Ok c.in-Text.is) in
    let u = text_unit _ _ t.kind t.every in
    let r = filled-room _ _ _ _ _ _ c.loop-unit.invariant 44 (record_length_lem _ _) _ t in
    (u.ends, omega arith)

pub loop-unit-smaller-in-Text : goal.loop-unit-smaller-in-Text
loop-unit-smaller-in-Text c =
    let t : Whole c.args.pes.now c.loop-unit.at c.in-Text.next false = met_by _ _ c.unit_at.ensures (c.in-Ok.is ∙ ap Ok c.in-Text.is) in
    omega (arith, t, text-next _ _ _ t)

pub loop-unit-preserved-in-Text : goal.loop-unit-preserved-in-Text
loop-unit-preserved-in-Text c =
    let t : Whole c.args.pes.now c.loop-unit.at c.in-Text.next false = met_by _ _ c.unit_at.ensures (c.in-Ok.is ∙ ap Ok c.in-Text.is) in
    filled-text _ _ _ _ _ _ c.loop-unit.invariant 44 (record_length_lem _ _) _ _ t c.put_record.auto.out c.put_record.ensures

pub loop-unit-smaller : goal.loop-unit-smaller
loop-unit-smaller c =
    let t : Whole c.args.pes.now c.loop-unit.at c.in-Stuffing.next true = met_by _ _ c.unit_at.ensures (c.in-Ok.is ∙ ap Ok c.in-Stuffing.is) in
    omega (arith, t, whole_moves _ _ _ _ t)

pub loop-unit-preserved : goal.loop-unit-preserved
loop-unit-preserved c =
    let t : Whole c.args.pes.now c.loop-unit.at c.in-Stuffing.next true = met_by _ _ c.unit_at.ensures (c.in-Ok.is ∙ ap Ok c.in-Stuffing.is) in
    filled-stuffing _ _ _ _ _ _ c.loop-unit.invariant _ t

pub returns : goal.returns
returns c = absurd (lawful-met _ _ _ (met_by _ _ c.unit_at.ensures c.in_default.is) c.loop-unit.invariant.rules)
