-- The answers that `pes::find` wants beside its invariant. Assumes nothing.
use mathlib.Core.Path.{◌∙◌, sym, ap}
use native.Mathlib.Omega.{arith}
use Rattle.laws.proofs.Lists.{part-rest}
use Rattle.pes.specs.Finding.{begins_packet}
use Rattle.pes.proofs.Finding.{first-here, first-later, first-none}
use Rattle.pes.proofs.find.Goals as goal

pub returns-then-begins : goal.returns-then-begins
returns-then-begins c =
    let s = c.args.bytes.now in
    let e = sym (ap begins_packet (part-rest c.loop-at.at s)) ∙ sym c.begins.ensures ∙ c.if-begins.true in
    sym (first-here s c.loop-at.at (omega arith) e) ∙ c.loop-at.invariant

pub loop-at-preserved : goal.loop-at-preserved
loop-at-preserved c =
    let s = c.args.bytes.now in
    let e = sym (ap begins_packet (part-rest c.loop-at.at s)) ∙ sym c.begins.ensures ∙ c.if-begins.false in
    sym (first-later s c.loop-at.at (omega arith) e) ∙ c.loop-at.invariant

pub returns : goal.returns
returns c = sym (first-none c.args.bytes.now c.loop-at.at (omega arith)) ∙ c.loop-at.invariant
