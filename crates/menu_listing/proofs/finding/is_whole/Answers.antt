-- The answers that `menu_listing::finding::is_whole` wants beside its invariants. Assumes nothing.
use borrow.Author.Rules.{rules}
use mathlib.Core.Path.{◌∙◌, refl, sym}
use native.Mathlib.Omega.{arith}
use Rattle.blocks.proofs.Walking.{Standing, standing, ended, broken, whole-at}
use Rattle.menu_listing.proofs.Records.{whole-ended, whole-broken}
use Rattle.menu_listing.proofs.finding.is_whole.Goals as goal

pub loop-next-init : goal.loop-next-init
loop-next-init c = (search rules, refl)

pub returns-in-End : goal.returns-in-End
returns-in-End c =
    whole-ended _ _ (ended _ _ (sym c.record_at.ensures ∙ c.in-End.is)) ∙ c.loop-next.invariant.1

pub returns-in-Broken : goal.returns-in-Broken
returns-in-Broken c =
    whole-broken _ _ c.loop-next.invariant.0 (broken _ _ (sym c.record_at.ensures ∙ c.in-Broken.is)) ∙ c.loop-next.invariant.1

pub loop-next-smaller : goal.loop-next-smaller
loop-next-smaller c =
    let stands-c : (Standing c.args.records.now c.loop-next.at c.in-Record.head c.in-Record.raw
    c.in-Record.next) = (standing _ _ _ _ _ (sym c.record_at.ensures ∙ c.in-Record.is)) in
    let s = stands-c in omega arith

pub loop-next-preserved : goal.loop-next-preserved
loop-next-preserved c =
    let stands-c : (Standing c.args.records.now c.loop-next.at c.in-Record.head c.in-Record.raw
    c.in-Record.next) = (standing _ _ _ _ _ (sym c.record_at.ensures ∙ c.in-Record.is)) in
    let s = stands-c in
    (s.within, sym (whole-at s) ∙ c.loop-next.invariant.1)
