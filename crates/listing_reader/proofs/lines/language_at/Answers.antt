-- `listing_reader::lines::language_at` meets its contract: the value is spelled, and compared with what stands there. Assumes nothing.
use mathlib.Core.Path.{◌∙◌}
use native.Mathlib.Omega.{arith}
use Rattle.listing_reader.proofs.Matching.{language_place, spelled_in, language-line}
use Rattle.listing_reader.proofs.lines.language_at.Goals as goal

pub slice_bounds-line_of-end : goal.slice_bounds-line_of-end
slice_bounds-line_of-end c = let p = c.put_language-long.ensures in (spelled_in 16 p.0 (omega (arith, p.1))).1

pub returns : goal.returns
returns c =
    let p = c.put_language-long.ensures in
    let s = spelled_in 16 p.0 (omega (arith, p.1)) in
    let a = c.args in
    c.line_of.ensures ∙ language-line _ _ _ (c.language_in-w.ensures ∙ language_place a.sheet.now a.at 9) s.0
