-- The answers that `menu_listing::finding::find_menu` wants beside its invariants. Assumes nothing.
use borrow.Author.Rules.{rules}
use mathlib.Core.Path.{◌∙◌, refl, sym}
use mathlib.Core.List.{List}
use Prim.Native.Nat.{ℕ, ◌-◌}
use native.Mathlib.Omega.{arith}
use lib.ListN.{drop, length-drop}
use lib.Seq.{length-take-le}
use Rattle.blocks.proofs.Walking.{Standing, standing}
use Rattle.menu_listing.proofs.Records.{passed_over, found_first, none-left, none-held}
use Rattle.menu_listing.proofs.finding.find_menu.Goals as goal

pub loop-next-init : goal.loop-next-init
loop-next-init c = (search rules, c.requires, refl)

pub returns : goal.returns
returns c =
    let s = c.args in
    let e = none-left s.application s.number s.records.now c.loop-next.at c.record_at.result c.record_at.ensures c.in_default.not-Record in
    none-held _ (sym e ∙ c.loop-next.invariant.2)

pub slice_bounds-judge-count : goal.slice_bounds-judge-count
slice_bounds-judge-count c =
    let stands-c : (Standing c.args.records.now c.loop-next.at c.in-Record.head
    c.in-Record.raw c.in-Record.next) = (standing _ _ _ _ _ (sym c.record_at.ensures ∙ c.in-Record.is)) in
    let s = stands-c in omega (arith, s.its_next)

pub judge-requires : goal.judge-requires
judge-requires c =
    let stands-c : (Standing c.args.records.now c.loop-next.at c.in-Record.head
    c.in-Record.raw c.in-Record.next) = (standing _ _ _ _ _ (sym c.record_at.ensures ∙ c.in-Record.is)) in
    let s = stands-c in
    let l = c.loop-next in
    let g : List ℕ = drop l.at c.args.records.now in
    let n = c.in-Record.next in
    let e = length-take-le (n - l.at) g (omega (arith, s.within, length-drop l.at c.args.records.now)) in
    (omega (arith, e, s.its_next), l.invariant.1)

pub returns-then-judge : goal.returns-then-judge
returns-then-judge c =
    let stands-c : (Standing c.args.records.now c.loop-next.at c.in-Record.head
    c.in-Record.raw c.in-Record.next) = (standing _ _ _ _ _ (sym c.record_at.ensures ∙ c.in-Record.is)) in
    let l = c.loop-next in
    let s = c.args in
    found_first s.application s.number stands-c c.judge.ensures c.if-judge.true l.invariant.2

pub loop-next-smaller : goal.loop-next-smaller
loop-next-smaller c =
    let stands-c : (Standing c.args.records.now c.loop-next.at c.in-Record.head
    c.in-Record.raw c.in-Record.next) = (standing _ _ _ _ _ (sym c.record_at.ensures ∙ c.in-Record.is)) in
    let s = stands-c in omega (arith, s.its_next, s.within)

pub loop-next-preserved : goal.loop-next-preserved
loop-next-preserved c =
    let stands-c : (Standing c.args.records.now c.loop-next.at c.in-Record.head
    c.in-Record.raw c.in-Record.next) = (standing _ _ _ _ _ (sym c.record_at.ensures ∙ c.in-Record.is)) in
    let j = c.judge in
    let l = c.loop-next in
    let s = c.args in
    let t = stands-c in
    let e = passed_over s.application s.number t j.ensures c.if-judge.false in
    (t.within, j.auto.form ∙ l.invariant.1, sym e ∙ l.invariant.2)

pub slice_bounds-judge-start : goal.slice_bounds-judge-start
slice_bounds-judge-start c =
    let stands-c : (Standing c.args.records.now c.loop-next.at c.in-Record.head
    c.in-Record.raw c.in-Record.next) = (standing _ _ _ _ _ (sym c.record_at.ensures ∙ c.in-Record.is)) in
    let s = stands-c in omega (arith, s.its_next)

pub slice_bounds-judge-end : goal.slice_bounds-judge-end
slice_bounds-judge-end c =
    let stands-c : (Standing c.args.records.now c.loop-next.at c.in-Record.head
    c.in-Record.raw c.in-Record.next) = (standing _ _ _ _ _ (sym c.record_at.ensures ∙ c.in-Record.is)) in
    let s = stands-c in omega (arith, s.within)
