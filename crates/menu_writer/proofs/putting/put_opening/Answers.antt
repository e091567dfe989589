-- `menu_writer::putting::put_opening` meets its contract: the fields before the descriptors in two numbers. Assumes nothing.
use mathlib.Core.Path.{◌≡◌, ◌∙◌, sym, ap}
use mathlib.Core.List.{List, map}
use Prim.Native.Nat.{ℕ, ◌+◌, ◌*◌, ◌%◌}
use lib.ListN.{length}
use lib.Seq.{sets}
use Rattle.octet.specs.Image.{image}
use Rattle.fields.specs.Fields.{parts}
use Rattle.fields.proofs.Inking.{run-inked}
use Rattle.menu_writer.proofs.Entries.{sent-length}
use Rattle.menu_writer.proofs.Storing.{two-stores}
use Rattle.menu_writer.proofs.Wholes.{opening-numbers}
use Rattle.menu_writer.proofs.putting.put_opening.Goals as goal

pub returns : goal.returns
returns c =
    let a = c.args in
    let f : List ℕ = a.form.now in
    let v = c.byte_at-copyright in
    let x = c.byte_at in
    let y = c.byte_at-2 in
    let h = c.byte_at-header in
    let m = c.byte_at-message in
    let d = c.byte_at-descriptors in
    let n = c.byte_at-events in
    let first = ((v.result % 2 * 256 + 3) * 1024 + a.control % 1024) * 256 in
    let second =
    (((d.result % 64 * 16 + m.result % 8) * 16 + n.result % 16) * 4 + h.result % 4) * 65536 + (x.result + 256 * y.result) in
    let xs = map image (parts 4 7 first) in
    let ys = map image (parts 4 8 second) in
    let place : 11 ≡ 4 + length xs = ap (λ (k : ℕ). 4 + k) (sym (sent-length 7 first)) in
    two-stores xs ys 4 11 place a.out.now c.put_field.new.out _ (c.put_field.ensures ∙ run-inked _ 7 _ _) (c.put_field-2.ensures ∙ run-inked _ 8 _ _)
    ∙ ap (λ (l : List ℕ). sets a.out.now 4 l)
    (sym
    (opening-numbers f a.control v.result x.result y.result h.result m.result d.result n.result v.ensures.0 x.ensures.0 y.ensures.0
    h.ensures.0 m.ensures.0 d.ensures.0 n.ensures.0 x.ensures.1 y.ensures.1))
