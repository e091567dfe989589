-- The answers that `listing_reader::table_from` wants beside its invariants. Assumes nothing.
use mathlib.Core.Path.{◌∙◌, refl}
use native.Mathlib.Omega.{arith}
use lib.ListN.{drop, length-drop}
use Rattle.listing_reader.specs.Reading.{descriptors_of}
use Rattle.listing_reader.proofs.Walks.{table_from, table_on, table-end}
use Rattle.listing_reader.proofs.table_from.Goals as goal

pub loop-part-init : goal.loop-part-init
loop-part-init c =
    let a = c.args in
    (omega arith, c.requires.inside, omega arith, omega arith, table_from a.kind a.at (descriptors_of a.kind (drop a.at a.sheet.now)))

pub descriptor_at-requires : goal.descriptor_at-requires
descriptor_at-requires c = record { inside = c.loop-part.invariant.1; short = c.requires.short }

pub overflow_add-result : goal.overflow_add-result
overflow_add-result c =
    let a = c.args in
    let loop = c.loop-part in
    let e = table-end a.sheet.now a.at loop.p a.kind loop.invariant.0 loop.count loop.entries loop.over c.in-Err.end c.in-Err.ensures.0 in
    omega (arith, loop.invariant.1, c.requires.short, simp length-drop at e.0)

pub overflow_sub-result : goal.overflow_sub-result
overflow_sub-result c = omega (arith, c.loop-part.invariant.0)

pub returns-in-Err : goal.returns-in-Err
returns-in-Err c =
    let a = c.args in
    let loop = c.loop-part in
    let e = table-end a.sheet.now a.at loop.p a.kind loop.invariant.0 loop.count loop.entries loop.over c.in-Err.end c.in-Err.ensures.0 in
    let l = c.loop-part in
    (e.1 ∙ l.invariant.4, omega (arith, l.invariant.0, l.invariant.2), omega (arith, l.invariant.0, l.invariant.3))

pub overflow_add-count : goal.overflow_add-count
overflow_add-count c = omega (arith, c.loop-part.invariant.1, c.loop-part.invariant.2, c.requires.short)

pub overflow_add-entries : goal.overflow_add-entries
overflow_add-entries c =
    let a = c.args in
    let loop = c.loop-part in
    let e = table_on a.sheet.now a.at loop.p a.kind loop.invariant.0 loop.count loop.entries loop.over _ c.in-Ok.part refl c.in-Ok.ensures.0 in
    let l = c.loop-part in
    omega (arith, l.invariant.1, l.invariant.3, c.requires.short, c.in-Ok.ensures.1, simp length-drop at e.1)

pub overflow_add-p : goal.overflow_add-p
overflow_add-p c =
    let a = c.args in
    let loop = c.loop-part in
    let over = c.is_over-over.ensures in
    let e = table_on a.sheet.now a.at loop.p a.kind loop.invariant.0 loop.count loop.entries loop.over _ c.in-Ok.part over c.in-Ok.ensures.0 in
    omega (arith, loop.invariant.1, c.requires.short, simp length-drop at e.1)

pub loop-part-smaller : goal.loop-part-smaller
loop-part-smaller c =
    let a = c.args in
    let loop = c.loop-part in
    let over = c.is_over-over.ensures in
    let e = table_on a.sheet.now a.at loop.p a.kind loop.invariant.0 loop.count loop.entries loop.over _ c.in-Ok.part over c.in-Ok.ensures.0 in
    omega (arith, e.0, loop.invariant.1, simp length-drop at e.1)

pub loop-part-preserved : goal.loop-part-preserved
loop-part-preserved c =
    let a = c.args in
    let loop = c.loop-part in
    let over = c.is_over-over.ensures in
    let e = table_on a.sheet.now a.at loop.p a.kind loop.invariant.0 loop.count loop.entries loop.over _ c.in-Ok.part over c.in-Ok.ensures.0 in
    let l = loop in (
      omega (arith, l.invariant.0),
      omega (arith, l.invariant.1, simp length-drop at e.1),
      omega (arith, e.0, l.invariant.0, l.invariant.2),
      omega (arith, l.invariant.0, l.invariant.3, c.in-Ok.ensures.1),
      e.2 ∙ l.invariant.4,
    )
