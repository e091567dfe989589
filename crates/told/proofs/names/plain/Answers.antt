-- The answers that `told::names::plain` wants beside its invariant. Assumes nothing.
use Rattle.std.proofs.Common.{◌∙◌, sym, arith}
use Rattle.laws.proofs.Maps.{map-store, map-stored}
use Rattle.told.specs.Names.{printed}
use Rattle.told.proofs.names.plain.Goals as goal

pub loop-b-preserved : goal.loop-b-preserved
loop-b-preserved c =
    let l = c.loop-b in
    map-store printed l.name l.b-index 0 (omega arith) c.glyph.ensures ∙ l.invariant

pub returns : goal.returns
returns c =
    let l = c.loop-b in
    sym (map-stored printed l.name l.b-index (omega arith)) ∙ l.invariant
