-- The answers that `writer::measure` wants beside its invariants. Assumes nothing.
use mathlib.Core.Path.{◌∙◌, sym}
use native.Mathlib.Omega.{arith}
use borrow.Author.Rules.{rules}
use Rattle.blocks.proofs.Walking.{Standing, standing, ended, broken}
use Rattle.writer.proofs.Measuring.{measure-start, measure-step, measure-end, measure-broken, record_cells}
use Rattle.writer.proofs.measure.Goals as goal

pub loop-raw-init : goal.loop-raw-init
loop-raw-init c = (search rules, search rules, measure-start c.args.records.now)

pub returns-in-End : goal.returns-in-End
returns-in-End c =
    measure-end _ _ _ (ended _ _ (sym c.record_at.ensures ∙ c.in-End.is)) ∙ c.loop-raw.invariant.2

pub returns-in-Broken : goal.returns-in-Broken
returns-in-Broken c =
    measure-broken _ _ _ c.loop-raw.invariant.0 (broken _ _ (sym c.record_at.ensures ∙ c.in-Broken.is))
    ∙ c.loop-raw.invariant.2

pub overflow_sub-next : goal.overflow_sub-next
overflow_sub-next c =
    let stands-c : (Standing c.args.records.now c.loop-raw.at
    c.in-Record.head c.in-Record.raw c.in-Record.next) = (standing _ _ _ _ _ (sym c.record_at.ensures ∙ c.in-Record.is)) in
    let s = stands-c in omega arith

pub cells_of-cells-requires : goal.cells_of-cells-requires
cells_of-cells-requires c =
    let stands-c : (Standing c.args.records.now c.loop-raw.at
    c.in-Record.head c.in-Record.raw c.in-Record.next) = (standing _ _ _ _ _ (sym c.record_at.ensures ∙ c.in-Record.is)) in
    let s = stands-c in omega arith

pub overflow_add-cells : goal.overflow_add-cells
overflow_add-cells c =
    let stands-c : (Standing c.args.records.now c.loop-raw.at
    c.in-Record.head c.in-Record.raw c.in-Record.next) = (standing _ _ _ _ _ (sym c.record_at.ensures ∙ c.in-Record.is)) in
    let s = stands-c in omega (arith, record_cells s)

pub loop-raw-smaller : goal.loop-raw-smaller
loop-raw-smaller c =
    let stands-c : (Standing c.args.records.now c.loop-raw.at
    c.in-Record.head c.in-Record.raw c.in-Record.next) = (standing _ _ _ _ _ (sym c.record_at.ensures ∙ c.in-Record.is)) in
    let s = stands-c in omega arith

pub loop-raw-preserved : goal.loop-raw-preserved
loop-raw-preserved c =
    let stands-c : (Standing c.args.records.now c.loop-raw.at
    c.in-Record.head c.in-Record.raw c.in-Record.next) = (standing _ _ _ _ _ (sym c.record_at.ensures ∙ c.in-Record.is)) in
    let s = stands-c in
    let l = c.loop-raw in
    (s.within, omega (arith, record_cells s), measure-step s l.cells c.cells_of-cells.result c.cells_of-cells.ensures ∙ l.invariant.2)
