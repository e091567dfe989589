-- `menu_listing::lines::put_event` meets its contract: three lines, one after the other. Assumes nothing.
use native.Mathlib.Omega.{arith}
use Rattle.text_lines.proofs.Printed.{then, put_as}
use Rattle.menu_listing.proofs.Bytes.{own_lines}
use Rattle.menu_listing.proofs.lines.put_event.Goals as goal

pub returns : goal.returns
returns c =
    let z = c.put_link.ensures in
    let y = c.put_text-b.ensures in
    let t = c.text_place.ensures.0 in
    let x = c.put_line-a.ensures in
    let l = c.link_at-link.ensures.0 in
    let k = c.byte_at-kind.ensures.0 in
    let s = c.args in
    let whole = own_lines s.level s.i _ _ _ s.form.now t k l in
    (put_as whole (then (then x.0 y.0) z.0), omega (arith, x.1, y.1, z.1))
