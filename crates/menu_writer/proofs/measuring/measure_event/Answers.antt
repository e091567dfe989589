-- `menu_writer::measuring::measure_event` meets its contract: its attributes, then its string. Assumes nothing.
use borrow.Author.Rules.{rules}
use mathlib.Core.Path.{refl}
use native.Mathlib.Omega.{arith}
use Rattle.menu_writer.proofs.Events.{event-told}
use Rattle.menu_writer.proofs.measuring.measure_event.Goals as goal

pub returns : goal.returns
returns c =
    let a = c.args in
    let k = c.byte_at-kind in
    let n = c.byte_at-count in
    let p = c.pass-a.ensures in
    let t = c.measure_text-t in (
      event-told a.form.now a.at n.result n.ensures.0 _ _ _ _ t.result p.0 p.1 t.ensures.0 refl (search rules),
      omega (arith, p.2, t.ensures.1, n.ensures.1),
      omega (arith, p.2, t.ensures.2, n.ensures.1),
      omega (arith, t.ensures.3),
    )
