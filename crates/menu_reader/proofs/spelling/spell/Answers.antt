-- `menu_reader::spelling::spell` meets its contract: the opening, the descriptors, the header, the events. Assumes nothing.
use mathlib.Core.Path.{refl}
use mathlib.Core.List.{map}
use native.Mathlib.Omega.{arith}
use Rattle.octet.specs.Decoding.{nib}
use Rattle.kinds.specs.Reading.{code_of}
use Rattle.menu_reader.proofs.Found.{spelled-all}
use Rattle.menu_reader.proofs.spelling.spell.Goals as goal

pub put_events-requires : goal.put_events-requires
put_events-requires c =
    let d = c.put_entries-d.ensures.1 in
    let h = c.put_text-h.ensures.1 in
    let x = c.bits-descriptors.ensures.1 in
    let y = c.bits-events.ensures.1 in
    ((omega (arith, d, h, x), omega (arith, h), omega (arith, d, h, x)), y)

pub returns : goal.returns
returns c =
    let a = c.args in
    let x = c.bits-descriptors in
    let y = c.bits-events in
    let z = c.bits in
    let m = c.bits-message in
    let o = c.put_opening in
    let d = c.put_entries-d in
    let h = c.put_text-h in
    let e = c.put_events in
    let n = x.ensures.1 in
    let k = y.ensures.1 in
    let f₁ = d.ensures.1 in
    let f₂ = h.ensures.1 in
    let f₃ = e.ensures.1 in (
      spelled-all (map nib a.control.now) (map code_of a.strings.now) x.result y.result _ z.result m.result d.result h.result e.result
          a.out.now o.new.out d.new.out h.new.out _ x.ensures.0 y.ensures.0 refl z.ensures.0 m.ensures.0
          o.ensures d.ensures.0 h.ensures.0 e.ensures.0,
      (omega (arith, n, k, f₂, f₃), omega (arith, k, f₂, f₃), omega (arith, n, k, f₁, f₂, f₃)),
    )
