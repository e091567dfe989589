-- `sheet_entry::with_table` meets its contract: a law for each test. Assumes nothing.
use borrow.Author.Rules.{rules}
use mathlib.Core.Path.{◌∙◌, sym}
use native.Mathlib.Omega.{arith}
use borrow.Author.Tests.{eq-eqb, ne_eqb, not-true, not-false}
use lib.ListN.{length-drop}
use Rattle.sheet_entry.proofs.Finding.{empty_line_lem, head-room, head-fits, end-room, found-broken, found-unended, found-unfit, found-low, found_all}
use Rattle.sheet_entry.proofs.with_table.Goals as goal

pub overflow_add-at : goal.overflow_add-at
overflow_add-at c =
    let q = head-room c.args.form c.args.sheet.now c.args.at c.args.least c.args.head c.requires.1 in
    omega (arith, c.requires.0.inside, c.requires.0.short, simp length-drop at q)

pub overflow_add-end : goal.overflow_add-end
overflow_add-end c =
    let t = c.table_at-table.ensures in
    let q = end-room c.args.form c.args.sheet.now c.args.at c.args.least c.args.head c.requires.1 _ t in
    omega (arith, c.requires.0.inside, c.requires.0.short, simp length-drop at q)

pub returns-then-not-table : goal.returns-then-not-table
returns-then-not-table c =
    let t = c.table_at-table.ensures in
    found-broken c.args.form c.args.sheet.now c.args.at c.args.least c.args.head c.requires.1 _ t
    (not-true _ c.if-not-table.true)

pub overflow_add-at-2 : goal.overflow_add-at-2
overflow_add-at-2 c =
    let t = c.table_at-table.ensures in
    let q = end-room c.args.form c.args.sheet.now c.args.at c.args.least c.args.head c.requires.1 _ t in
    omega (arith, c.requires.0.inside, c.requires.0.short, simp length-drop at q)

pub returns-then-byte_at-ne-LINE_END : goal.returns-then-byte_at-ne-LINE_END
returns-then-byte_at-ne-LINE_END c =
    let t = c.table_at-table.ensures in
    found-unended c.args.form c.args.sheet.now c.args.at c.args.least c.args.head c.requires.1 _ t
    (not-false _ c.if-not-table.false) (empty_line_lem c.args.sheet.now _ ∙ ne_eqb _ 10 (λ e. c.if-byte_at-ne-LINE_END.true (c.byte_at.ensures.0 ∙ e)))

pub returns-then-not-counts_fit : goal.returns-then-not-counts_fit
returns-then-not-counts_fit c =
    let t = c.table_at-table.ensures in
    let fine = not-false _ c.if-not-table.false in
    let ends = empty_line_lem c.args.sheet.now _ ∙ eq-eqb _ 10 (sym c.byte_at.ensures.0 ∙ c.if-byte_at-ne-LINE_END.false) in
    found-unfit c.args.form c.args.sheet.now c.args.at c.args.least c.args.head c.requires.1 _ t
    fine ends (sym c.counts_fit.ensures ∙ c.if-not-counts_fit.true)

pub key_of-key-requires : goal.key_of-key-requires
key_of-key-requires c =
    head-fits c.args.form c.args.sheet.now c.args.at c.args.least c.args.head c.requires.1

pub overflow_add-result : goal.overflow_add-result
overflow_add-result c =
    let t = c.table_at-table.ensures in
    let q = end-room c.args.form c.args.sheet.now c.args.at c.args.least c.args.head c.requires.1 _ t in
    omega (arith, c.requires.0.inside, c.requires.0.short, simp length-drop at q)

pub returns-then-least-key : goal.returns-then-least-key
returns-then-least-key c =
    let t = c.table_at-table.ensures in
    let fine = not-false _ c.if-not-table.false in
    let ends = empty_line_lem c.args.sheet.now _ ∙ eq-eqb _ 10 (sym c.byte_at.ensures.0 ∙ c.if-byte_at-ne-LINE_END.false) in
    let fit = sym c.counts_fit.ensures ∙ c.if-not-counts_fit.false in
    found_all c.args.form c.args.sheet.now c.args.at c.args.least c.args.head c.requires.1 _ t
    fine ends fit _ c.key_of-key.ensures.0 (search rules)

pub returns : goal.returns
returns c =
    let t = c.table_at-table.ensures in
    let fine = not-false _ c.if-not-table.false in
    let ends = empty_line_lem c.args.sheet.now _ ∙ eq-eqb _ 10 (sym c.byte_at.ensures.0 ∙ c.if-byte_at-ne-LINE_END.false) in
    let fit = sym c.counts_fit.ensures ∙ c.if-not-counts_fit.false in
    found-low c.args.form c.args.sheet.now c.args.at c.args.least c.args.head c.requires.1 _ t
    fine ends fit _ c.key_of-key.ensures.0 (search rules)
