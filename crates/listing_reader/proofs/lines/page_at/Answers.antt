-- `listing_reader::lines::page_at` meets its contract: the value is spelled, and compared with what stands there. Assumes nothing.
use mathlib.Core.Path.{◌∙◌}
use native.Mathlib.Omega.{arith}
use Rattle.listing_reader.proofs.Matching.{hex_place, spelled_in, page-line}
use Rattle.listing_reader.proofs.lines.page_at.Goals as goal

pub slice_bounds-line_of-end : goal.slice_bounds-line_of-end
slice_bounds-line_of-end c = let p = c.put_page-long.ensures in (spelled_in 12 p.0 (omega (arith, p.1))).1

pub returns : goal.returns
returns c =
    let p = c.put_page-long.ensures in
    let s = spelled_in 12 p.0 (omega (arith, p.1)) in
    let a = c.args in
    c.line_of.ensures ∙ page-line _ _ _ (c.hex_word-w.ensures ∙ hex_place a.sheet.now a.at 5) s.0
