-- `menu_writer::measuring::measure` meets its contract: the descriptors, the header, the events. Assumes nothing.
use borrow.Author.Rules.{rules}
use mathlib.Core.Path.{refl}
use native.Mathlib.Omega.{arith}
use Rattle.menu_writer.proofs.Wholes.{whole-told}
use Rattle.menu_writer.proofs.measuring.measure.Goals as goal

pub returns : goal.returns
returns c =
    let a = c.args in
    let d = c.byte_at-descriptors in
    let n = c.byte_at-events in
    let p = c.pass-d in
    let x = c.measure_text-h in
    let y = c.measure_events-e in (
      whole-told a.form.now d.result n.result p.result.end x.result.end d.ensures.0 n.ensures.0 p.ensures.0 x.ensures.0.ends _ _
          _ _ x.result y.result p.ensures.1 x.ensures.0 y.ensures.0 (search rules) refl refl,
      omega (arith, d.ensures.1, n.ensures.1, x.ensures.2, y.ensures.2),
      omega (arith, n.ensures.1, x.ensures.3, y.ensures.3),
    )
