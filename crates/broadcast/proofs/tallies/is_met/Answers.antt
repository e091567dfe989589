-- The answers that `broadcast::tallies::is_met` wants beside its invariants. Assumes nothing.
use borrow.Author.Rules.{rules}
use mathlib.Core.Path.{◌∙◌, refl, ap}
use Prim.Native.Nat.{ℕ}
use lib.ListN.{get_or}
use Rattle.broadcast.specs.Lawful.{each_within}
use Rattle.broadcast.specs.Internal.{counts_by}
use Rattle.broadcast.proofs.Judged.{fits_at, fits-over, fits-within, fits-step, fits-stop, fits-end}
use Rattle.broadcast.proofs.tallies.is_met.Goals as goal

pub loop-network-init : goal.loop-network-init
loop-network-init c = refl

pub returns-then-limit-tallied_at : goal.returns-then-limit-tallied_at
unfolding each_within counts_by
returns-then-limit-tallied_at c =
    let l = c.loop-network in
    let s = c.args in
    let tallied = c.tallied_at.ensures ∙ ap (λ (p : ℕ). get_or s.tally.now p 0) c.network_at.ensures in
    let over = fits-over s.tally.now s.kind s.channel l.network tallied c.limit.ensures c.if-limit-tallied_at.true in
    fits-stop (fits_at s.tally.now s.kind s.channel) l.network (search rules) over ∙ l.invariant

pub loop-network-preserved : goal.loop-network-preserved
loop-network-preserved c =
    let l = c.loop-network in
    let s = c.args in
    let tallied = c.tallied_at.ensures ∙ ap (λ (p : ℕ). get_or s.tally.now p 0) c.network_at.ensures in
    let within = fits-within s.tally.now s.kind s.channel l.network tallied c.limit.ensures c.if-limit-tallied_at.false in
    fits-step (fits_at s.tally.now s.kind s.channel) l.network (search rules) within ∙ l.invariant

pub returns : goal.returns
unfolding each_within counts_by
returns c =
    let l = c.loop-network in
    let s = c.args in
    fits-end (fits_at s.tally.now s.kind s.channel) l.network (search rules) ∙ l.invariant
