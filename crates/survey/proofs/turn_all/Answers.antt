-- The answers that `survey::turn_all` wants beside its invariant. Assumes nothing.
use mathlib.Core.Path.{◌∙◌, sym}
use native.Mathlib.Omega.{arith}
use Rattle.laws.proofs.Maps.{map-store, map-stored}
use Rattle.octet.specs.Turning.{turned}
use Rattle.survey.proofs.turn_all.Goals as goal

pub loop-byte-preserved : goal.loop-byte-preserved
loop-byte-preserved c =
    let l = c.loop-byte in
    map-store turned l.bytes l.byte-index 0 (omega arith) c.turn.ensures ∙ l.invariant

pub returns : goal.returns
returns c =
    let l = c.loop-byte in
    sym (map-stored turned l.bytes l.byte-index (omega arith)) ∙ l.invariant
