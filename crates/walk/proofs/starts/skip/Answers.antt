-- The answers that `walk::starts::skip` wants beside its invariants. Assumes nothing.
use mathlib.Core.Path.{◌∙◌}
use native.Mathlib.Omega.{arith}
use native.Mathlib.Decide.{dec_lt}
use lib.ListN.{length}
use Rattle.walk.proofs.Stepping.{filler-on, filler_stops, filler-ends}
use Rattle.walk.proofs.starts.skip.Goals as goal

pub loop-i-preserved : goal.loop-i-preserved
loop-i-preserved c =
    let l = c.loop-i in
    filler-on c.args.s.now l.i (omega arith) (omega arith) ∙ l.invariant

pub returns-then-decode-ne3 : goal.returns-then-decode-ne3
returns-then-decode-ne3 c =
    let l = c.loop-i in
    filler_stops c.args.s.now l.i (omega arith) (λ e. c.if-decode-ne3.true (c.decode.ensures ∙ e)) ∙ l.invariant

-- past the end no filler stands, and up to it the place is the end
pub returns : goal.returns
returns c =
    let l = c.loop-i in
    let a = c.args in
    let e = filler-ends a.s.now l.i (omega arith) in
    elim (dec_lt (length a.s.now) a.from) [
      | yes h ↦ omega (arith, e, l.invariant, filler-ends a.s.now a.from (omega arith))
      | no h ↦ omega (arith, e, l.invariant, l.auto.i)
    ]
