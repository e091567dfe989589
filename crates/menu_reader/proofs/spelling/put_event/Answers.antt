-- `menu_reader::spelling::put_event` meets its contract: link, type and number of attributes, the attributes, the string. Assumes nothing.
use mathlib.Core.List.{map}
use native.Mathlib.Omega.{arith}
use Rattle.octet.specs.Decoding.{nib}
use Rattle.kinds.specs.Reading.{code_of}
use Rattle.menu_reader.proofs.Entries.{event-put}
use Rattle.menu_reader.proofs.spelling.put_event.Goals as goal

pub returns : goal.returns
returns c =
    let a = c.args in
    let x = c.bits-link in
    let y = c.bits-kind in
    let n = c.bits-count in
    let b = c.put_bytes in
    let e = c.put_entries-a in
    let t = c.put_text in (
      event-put (map nib a.control.now) (map code_of a.strings.now) a.s x.result y.result n.result e.result t.result a.out.now
          b.new.out e.new.out _ x.ensures.0 y.ensures.0 n.ensures.0 x.ensures.1 y.ensures.1 n.ensures.1
          b.ensures e.ensures.0 t.ensures.0,
      (omega (arith, e.ensures.1, t.ensures.1, n.ensures.1), omega (arith, e.ensures.1, t.ensures.1), omega (arith, e.ensures.1, t.ensures.1, n.ensures.1)),
    )
