-- `menu_listing::lines::put_head` meets its contract: three lines, one after the other. Assumes nothing.
use native.Mathlib.Omega.{arith}
use Rattle.text_lines.proofs.Printed.{then, put_as}
use Rattle.menu_listing.proofs.Bytes.{head_lines_lem}
use Rattle.menu_listing.proofs.lines.put_head.Goals as goal

pub returns : goal.returns
returns c =
    let s = c.args in
    let whole = head_lines_lem s.level s.number _ s.form.now c.header_place.ensures.0 in
    let x = c.put_line-a.ensures in
    let y = c.put_line-b.ensures in
    let z = c.put_text.ensures in
    (put_as whole (then (then x.0 y.0) z.0), omega (arith, x.1, y.1, z.1))
