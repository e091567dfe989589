-- `broadcast::tallies::judge` meets its contract: the rows that can fail, in their order. Assumes nothing.
use mathlib.Core.Path.{◌∙◌, sym}
use native.Mathlib.Omega.{arith}
use Rattle.broadcast.specs.Internal.{counts_by}
use Rattle.broadcast.proofs.Judged.{judged-ai, judged-mi, judged-ui, judged-li, judged-ti, judged-lawful}
use Rattle.broadcast.proofs.tallies.judge.Goals as goal

pub returns-then-tallied_at-ne1 : goal.returns-then-tallied_at-ne1
unfolding counts_by
returns-then-tallied_at-ne1 c =
    let s = c.args in
    judged-ai (counts_by s.tally.now s.channel) (λ e. omega (arith, c.tallied_at.ensures, c.if-tallied_at-ne1.true, e))

pub returns-then-tallied_at-gt255 : goal.returns-then-tallied_at-gt255
unfolding counts_by
returns-then-tallied_at-gt255 c =
    let s = c.args in
    judged-mi (counts_by s.tally.now s.channel) (omega (arith, c.tallied_at.ensures, c.if-tallied_at-ne1.false)) (omega (arith, c.tallied_at-2.ensures, c.if-tallied_at-gt255.true))

pub returns-then-tallied_at-gt1 : goal.returns-then-tallied_at-gt1
unfolding counts_by
returns-then-tallied_at-gt1 c =
    let s = c.args in
    judged-ui (counts_by s.tally.now s.channel) (omega (arith, c.tallied_at.ensures, c.if-tallied_at-ne1.false)) (omega (arith, c.tallied_at-2.ensures, c.if-tallied_at-gt255.false))
    (omega (arith, c.tallied_at-3.ensures, c.if-tallied_at-gt1.true))

pub returns-then-not-is_met : goal.returns-then-not-is_met
unfolding counts_by
returns-then-not-is_met c =
    let s = c.args in
    judged-li (counts_by s.tally.now s.channel) (omega (arith, c.tallied_at.ensures, c.if-tallied_at-ne1.false)) (omega (arith, c.tallied_at-2.ensures, c.if-tallied_at-gt255.false))
    (omega (arith, c.tallied_at-3.ensures, c.if-tallied_at-gt1.false))
    (sym c.is_met.ensures ∙ c.if-not-is_met.true)

pub returns-then-not-is_met-2 : goal.returns-then-not-is_met-2
unfolding counts_by
returns-then-not-is_met-2 c =
    let s = c.args in
    judged-ti (counts_by s.tally.now s.channel) (omega (arith, c.tallied_at.ensures, c.if-tallied_at-ne1.false)) (omega (arith, c.tallied_at-2.ensures, c.if-tallied_at-gt255.false))
    (omega (arith, c.tallied_at-3.ensures, c.if-tallied_at-gt1.false))
    (sym c.is_met.ensures ∙ c.if-not-is_met.false)
    (sym c.is_met-2.ensures ∙ c.if-not-is_met-2.true)

pub returns : goal.returns
unfolding counts_by
returns c =
    let s = c.args in
    judged-lawful (counts_by s.tally.now s.channel) (omega (arith, c.tallied_at.ensures, c.if-tallied_at-ne1.false)) (omega (arith, c.tallied_at-2.ensures, c.if-tallied_at-gt255.false))
    (omega (arith, c.tallied_at-3.ensures, c.if-tallied_at-gt1.false))
    (sym c.is_met.ensures ∙ c.if-not-is_met.false)
    (sym c.is_met-2.ensures ∙ c.if-not-is_met-2.false)
