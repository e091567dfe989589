-- `menu_writer::putting::put_all_strings` meets its contract: the header's codes, then the events'. Assumes nothing.
use mathlib.Core.Path.{◌∙◌, sym, ap}
use mathlib.Core.List.{List, map}
use Prim.Native.Nat.{ℕ}
use lib.ListN.{drop}
use lib.Seq.{sets}
use Rattle.parity.specs.Parity.{letter}
use Rattle.menu_forms.specs.Rows.{each}
use Rattle.menu_forms.specs.Menus.{codes_of}
use Rattle.menu_forms.specs.Form.{text_in}
use Rattle.menu_writer.proofs.Storing.{two-stores}
use Rattle.menu_writer.proofs.Events.{events_in}
use Rattle.menu_writer.proofs.Wholes.{all_codes}
use Rattle.menu_writer.proofs.putting.put_all_strings.Goals as goal

pub returns : goal.returns
returns c =
    let a = c.args in
    let f : List ℕ = a.form.now in
    let d = c.byte_at-descriptors in
    let n = c.byte_at-events in
    let p = c.pass-d in
    let h = c.put_string-h in
    let xs = map letter (text_in (drop p.result.end f)).codes in
    let ys = map letter (each codes_of (events_in n.result (drop h.result.at f))) in
    two-stores xs ys a.to h.result.to h.ensures.1 a.out.now h.new.out _ h.ensures.4 c.put_strings.ensures
    ∙ ap (λ (l : List ℕ). sets a.out.now a.to l)
    (sym (all_codes f d.result n.result p.result.end h.result.at d.ensures.0 n.ensures.0 p.ensures.0 h.ensures.0))
