-- `sheet_entry::head_at_lem` meets its contract: the stamp, what was mended, then the key's lines. Assumes nothing.
use Prim.Native.Nat.{◌+◌}
use native.Mathlib.Omega.{arith}
use lib.ListN.{length-drop}
use Rattle.listing_reader.proofs.Walks.{number-place}
use Rattle.sheet_entry.specs.Entries.{stamp_name, stamp_most}
use Rattle.sheet_entry.proofs.Heads.{head-unstamped, head-unmended, head-unnamed, head-all, named-within, unnamed-within, mended-place}
use Rattle.sheet_entry.proofs.head_at.Goals as goal

pub returns-then-a-eq0 : goal.returns-then-a-eq0
returns-then-a-eq0 c =
    head-unstamped c.args.form c.args.sheet.now c.args.at _ c.number_at-stamp.ensures c.if-a-eq0.true

pub overflow_add-at : goal.overflow_add-at
overflow_add-at c =
    let w = number-place stamp_name stamp_most c.requires c.number_at-stamp.ensures in omega (arith, w.inside, w.short)

pub returns-then-b-mended_least : goal.returns-then-b-mended_least
returns-then-b-mended_least c =
    let l = c.mended_least.ensures in
    head-unmended c.args.form c.args.sheet.now c.args.at _ c.number_at-stamp.ensures c.if-a-eq0.false _ c.mended_at-mended.ensures
    (omega (arith, c.if-b-mended_least.true, l))

pub overflow_add-at-2 : goal.overflow_add-at-2
overflow_add-at-2 c =
    let w = number-place stamp_name stamp_most c.requires c.number_at-stamp.ensures in omega (arith, w.inside, w.short)

pub overflow_add-at-3 : goal.overflow_add-at-3
overflow_add-at-3 c =
    let w = mended-place c.args.form (number-place stamp_name stamp_most c.requires c.number_at-stamp.ensures) c.mended_at-mended.ensures in
    omega (arith, w.inside, w.short)

pub key_at-requires : goal.key_at-requires
key_at-requires c =
    mended-place c.args.form (number-place stamp_name stamp_most c.requires c.number_at-stamp.ensures) c.mended_at-mended.ensures

pub overflow_add-result : goal.overflow_add-result
overflow_add-result c =
    let w = mended-place c.args.form (number-place stamp_name stamp_most c.requires c.number_at-stamp.ensures) c.mended_at-mended.ensures in
    omega (arith, w.inside, w.short)

pub overflow_add-result-in-Err : goal.overflow_add-result-in-Err
overflow_add-result-in-Err c =
    let w = mended-place c.args.form (number-place stamp_name stamp_most c.requires c.number_at-stamp.ensures) c.mended_at-mended.ensures in
    let k = unnamed-within c.args.sheet.now (c.args.at + c.number_at-stamp.result.long + c.mended_at-mended.result.long) c.in-Err.ensures in
    omega (arith, w.inside, w.short, simp length-drop at k)

pub returns-in-Err : goal.returns-in-Err
returns-in-Err c =
    let l = c.mended_least.ensures in
    head-unnamed c.args.form c.args.sheet.now c.args.at _ c.number_at-stamp.ensures c.if-a-eq0.false _ c.mended_at-mended.ensures
    (omega (arith, c.if-b-mended_least.false, l)) c.in-Err.ensures

pub overflow_add-result-in-Ok : goal.overflow_add-result-in-Ok
overflow_add-result-in-Ok c =
    let w = mended-place c.args.form (number-place stamp_name stamp_most c.requires c.number_at-stamp.ensures) c.mended_at-mended.ensures in
    omega (arith, w.inside, w.short)

pub overflow_add-result-in-Ok-2 : goal.overflow_add-result-in-Ok-2
overflow_add-result-in-Ok-2 c =
    let w = mended-place c.args.form (number-place stamp_name stamp_most c.requires c.number_at-stamp.ensures) c.mended_at-mended.ensures in
    let k = named-within c.args.sheet.now (c.args.at + c.number_at-stamp.result.long + c.mended_at-mended.result.long) c.in-Ok.ensures in
    omega (arith, w.inside, w.short, simp length-drop at k)

pub returns-in-Ok : goal.returns-in-Ok
returns-in-Ok c =
    let l = c.mended_least.ensures in
    head-all c.args.form c.args.sheet.now c.args.at _ c.number_at-stamp.ensures c.if-a-eq0.false _ c.mended_at-mended.ensures
    (omega (arith, c.if-b-mended_least.false, l)) _ c.in-Ok.ensures
