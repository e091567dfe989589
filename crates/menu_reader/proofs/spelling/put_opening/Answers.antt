-- `menu_reader::spelling::put_opening` meets its contract: four bytes and five, each put as one number. Assumes nothing.
use mathlib.Core.List.{map}
use Rattle.octet.specs.Decoding.{nib}
use Rattle.menu_reader.proofs.Entries.{opening-put}
use Rattle.menu_reader.proofs.spelling.put_opening.Goals as goal

pub returns : goal.returns
returns c =
    let a = c.args in
    let v = c.bits-copyright in
    let b = c.bits-block in
    let h = c.bits-header in
    let e = c.bits-events in
    let s = c.bits-size in
    let d = c.bits-descriptors in
    let p = c.put_bytes in
    opening-put (map nib a.control.now) v.result b.result h.result e.result s.result d.result a.message a.out.now p.new.out _
    v.ensures.0 b.ensures.0 h.ensures.0 e.ensures.0 s.ensures.0 d.ensures.0 v.ensures.1 b.ensures.1 h.ensures.1 e.ensures.1
    s.ensures.1 d.ensures.1 c.requires p.ensures c.put_bytes-2.ensures
