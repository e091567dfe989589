-- The answers that `broadcast::walk` wants beside its invariants. Assumes nothing.
use borrow.Author.Rules.{rules}
use mathlib.Core.Path.{◌∙◌, refl, sym, ap}
use Prim.Native.Nat.{ℕ}
use native.Mathlib.Omega.{arith}
use lib.ListN.{drop}
use Rattle.std.specs.Prelude.{Some}
use Rattle.laws.specs.Bytes.{Bytes}
use Rattle.blocks.proofs.Walking.{Standing, standing, ended, broken, whole-at}
use Rattle.broadcast.specs.Lawful.{channel_from}
use Rattle.broadcast.specs.Internal.{tallied}
use Rattle.broadcast.proofs.Records.{whole-ended, whole-broken, seen-ended, seen-broken, channel-on, tally-on}
use Rattle.broadcast.proofs.walk.Goals as goal

pub loop-next-init : goal.loop-next-init
loop-next-init c = (search rules, refl, refl, refl)

pub returns-in-End : goal.returns-in-End
unfolding channel_from tallied
returns-in-End c =
    let i = c.loop-next.invariant in
    let s = c.args in
    let e = ended _ _ (sym c.record_at.ensures ∙ c.in-End.is) in
    let n = sym (seen-ended s.application s.records.now c.loop-next.at e) in record {
      answer = rw (sym (whole-ended _ _ e ∙ i.1)) (ap (λ (x : ℕ). Some x) (ap (channel_from c.loop-next.channel) n ∙ i.2));
      output = ap (tallied c.loop-next.tally) n ∙ i.3;
    }

pub returns-in-Broken : goal.returns-in-Broken
unfolding channel_from tallied
returns-in-Broken c =
    let i = c.loop-next.invariant in
    let s = c.args in
    let e = broken _ _ (sym c.record_at.ensures ∙ c.in-Broken.is) in
    let n = sym (seen-broken s.application (drop c.loop-next.at s.records.now) e.1) in record {
      answer = rw (sym (whole-broken _ _ i.0 e ∙ i.1));
      output = ap (tallied c.loop-next.tally) n ∙ i.3;
    }

pub slice_bounds-see-count : goal.slice_bounds-see-count
slice_bounds-see-count c =
    let stands-c : (Standing c.args.records.now c.loop-next.at c.in-Record.head
    c.in-Record.raw c.in-Record.next) = (standing _ _ _ _ _ (sym c.record_at.ensures ∙ c.in-Record.is)) in
    let s = stands-c in omega (arith, s.its_next)

pub loop-next-smaller : goal.loop-next-smaller
loop-next-smaller c =
    let stands-c : (Standing c.args.records.now c.loop-next.at c.in-Record.head
    c.in-Record.raw c.in-Record.next) = (standing _ _ _ _ _ (sym c.record_at.ensures ∙ c.in-Record.is)) in
    let s = stands-c in omega (arith, s.its_next, s.within)

pub loop-next-preserved : goal.loop-next-preserved
loop-next-preserved c =
    let stands-c : (Standing c.args.records.now c.loop-next.at c.in-Record.head
    c.in-Record.raw c.in-Record.next) = (standing _ _ _ _ _ (sym c.record_at.ensures ∙ c.in-Record.is)) in
    let t = stands-c in
    let l = c.loop-next in
    let s = c.args in
    let small : Bytes s.records.now = λ (i : ℕ). omega (arith, c.type_inv.records i) in
    let see = c.see-seen.ensures in
    let channel = channel-on s.application small t see l.channel c.channel_after-channel.ensures in
    let tally = tally-on s.application small t see l.tally c.count.ensures in
    (t.within, sym (whole-at t) ∙ l.invariant.1, channel ∙ l.invariant.2, tally ∙ l.invariant.3)

pub slice_bounds-see-start : goal.slice_bounds-see-start
slice_bounds-see-start c =
    let stands-c : (Standing c.args.records.now c.loop-next.at c.in-Record.head
    c.in-Record.raw c.in-Record.next) = (standing _ _ _ _ _ (sym c.record_at.ensures ∙ c.in-Record.is)) in
    let s = stands-c in omega (arith, s.its_next)

pub slice_bounds-see-end : goal.slice_bounds-see-end
slice_bounds-see-end c =
    let stands-c : (Standing c.args.records.now c.loop-next.at c.in-Record.head
    c.in-Record.raw c.in-Record.next) = (standing _ _ _ _ _ (sym c.record_at.ensures ∙ c.in-Record.is)) in
    let s = stands-c in omega (arith, s.within)
