-- The answers that `sight::count_all` wants beside its invariant. Assumes nothing.
use mathlib.Core.Path.{◌∙◌}
use native.Mathlib.Omega.{arith}
use Rattle.sight.proofs.Looking.{count-on, note-on, count-out, note-out}
use Rattle.sight.proofs.count_all.Goals as goal

pub loop-i-preserved : goal.loop-i-preserved
loop-i-preserved c =
    let a = c.args in
    let l = c.loop-i in record {
      counted = count-on a.bytes.now l.i a.setting l.counts (omega arith) c.count-counts.ensures ∙ l.invariant.counted;
      noted = note-on a.bytes.now l.i l.pages (omega arith) c.note.ensures ∙ l.invariant.noted;
    }

pub returns : goal.returns
returns c =
    let a = c.args in
    let l = c.loop-i in record {
      value = count-out a.bytes.now l.i a.setting l.counts (omega arith) ∙ l.invariant.counted;
      pages_after = note-out a.bytes.now l.i l.pages (omega arith) ∙ l.invariant.noted;
    }
