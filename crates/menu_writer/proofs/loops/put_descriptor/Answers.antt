-- `menu_writer::loops::put_descriptor` meets its contract: the three fields are sent as one number. Assumes nothing.
use mathlib.Core.Path.{◌∙◌, refl, sym, ap}
use mathlib.Core.List.{List, map}
use Prim.Native.Nat.{ℕ}
use lib.Seq.{sets}
use Rattle.octet.specs.Image.{image}
use Rattle.fields.proofs.Inking.{run-inked}
use Rattle.menu_writer.proofs.Entries.{descriptor-number}
use Rattle.menu_writer.proofs.loops.put_descriptor.Goals as goal

pub returns : goal.returns
returns c =
    let a = c.args in
    let w = c.byte_at-which in
    let i = c.byte_at-id in
    let e = c.byte_at-eval in
    let n = descriptor-number a.form.now a.at w.result i.result e.result w.ensures.0 i.ensures.0 e.ensures.0 e.ensures.1 in
    (refl, c.put_field.ensures ∙ run-inked _ 5 _ _ ∙ ap (λ (l : List ℕ). sets a.out.now a.to (map image l)) (sym n))
