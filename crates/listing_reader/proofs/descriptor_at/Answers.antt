-- `listing_reader::descriptor_at` meets its contract: a law for each way. Assumes nothing.
use borrow.Author.Tests.{not-true, not-false}
use native.Mathlib.Omega.{arith}
use lib.ListN.{length-drop}
use Rattle.listing_reader.proofs.Walks.{within_on, number-room, row_room, descriptor-stop, descriptor-broken, descriptor-read}
use Rattle.listing_reader.proofs.descriptor_at.Goals as goal

pub returns-then-long-eq0 : goal.returns-then-long-eq0
returns-then-long-eq0 c =
    (descriptor-stop c.args.sheet.now c.args.at c.args.kind _ c.number_at-line.ensures c.if-long-eq0.true, tt)

pub overflow_add-at : goal.overflow_add-at
overflow_add-at c =
    let w = c.requires in
    let r = number-room c.args.sheet.now c.args.at c.args.kind _ c.number_at-line.ensures in
    omega (arith, w.inside, w.short, simp length-drop at r)

pub row_at-row-requires : goal.row_at-row-requires
row_at-row-requires c =
    within_on _ c.requires (number-room c.args.sheet.now c.args.at c.args.kind _ c.number_at-line.ensures)

pub overflow_add-whole : goal.overflow_add-whole
overflow_add-whole c =
    let number_at = c.number_at-line in
    let if1 = c.if-long-eq0 in
    let row_at_lem = c.row_at-row in
    let w = c.requires in
    let r = number-room c.args.sheet.now c.args.at c.args.kind _ number_at.ensures in
    let q = row_room c.args.sheet.now c.args.at c.args.kind _ number_at.ensures if1.false _ row_at_lem.ensures.0 in
    omega (arith, w.short, simp length-drop at r, simp length-drop at q)

pub returns-then-not-row : goal.returns-then-not-row
returns-then-not-row c =
    let number_at = c.number_at-line in
    let if1 = c.if-long-eq0 in
    let row_at_lem = c.row_at-row in
    let if2 = c.if-not-row in
    (descriptor-broken c.args.sheet.now c.args.at c.args.kind _ number_at.ensures if1.false _ row_at_lem.ensures.0 (not-true _ if2.true), tt)

pub returns : goal.returns
returns c =
    let a = c.args in
    let number_at = c.number_at-line in
    let if1 = c.if-long-eq0 in
    let row_at_lem = c.row_at-row in
    (descriptor-read a.sheet.now a.at a.kind _ number_at.ensures if1.false _ row_at_lem.ensures.0 (not-false _ c.if-not-row.false), omega (arith, row_at_lem.ensures.1))
