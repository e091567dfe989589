-- `menu_listing::lines::link_at` meets its contract: two bytes, the low one first. Assumes nothing.
use native.Mathlib.Omega.{arith}
use Rattle.menu_listing.proofs.Bytes.{link_at_lem}
use Rattle.menu_listing.proofs.lines.link_at.Goals as goal

pub returns : goal.returns
returns c =
    let s = c.args in
    let a = c.byte_at.ensures in
    let b = c.byte_at-2.ensures in
    (link_at_lem s.i _ _ s.form.now a.0 b.0 a.1 b.1, omega (arith, a.1, b.1))
