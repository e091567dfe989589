-- `menu_writer::loops::put_escape` meets its contract: the three fields are sent as one number. Assumes nothing.
use mathlib.Core.Path.{◌∙◌, refl, sym, ap}
use mathlib.Core.List.{List, map}
use Prim.Native.Nat.{ℕ}
use lib.Seq.{sets}
use Rattle.octet.specs.Image.{image}
use Rattle.fields.proofs.Inking.{run-inked}
use Rattle.menu_writer.proofs.Entries.{escape_number}
use Rattle.menu_writer.proofs.loops.put_escape.Goals as goal

pub returns : goal.returns
returns c =
    let a = c.args in
    let x = c.byte_at in
    let y = c.byte_at-2 in
    let m = c.byte_at-mode in
    let e = c.byte_at-content in
    let n =
    escape_number a.form.now a.at x.result y.result m.result e.result x.ensures.0 y.ensures.0 m.ensures.0 e.ensures.0
    x.ensures.1 y.ensures.1 e.ensures.1 in
    (refl, c.put_field.ensures ∙ run-inked _ 6 _ _ ∙ ap (λ (l : List ℕ). sets a.out.now a.to (map image l)) (sym n))
