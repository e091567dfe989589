-- `menu_writer::putting::put_event` meets its contract: link, type and number of attributes, the attributes, the string. Assumes nothing.
use mathlib.Core.Path.{◌≡◌, ◌∙◌, sym, ap}
use mathlib.Core.List.{List, ◌++◌, map, append_assoc}
use Prim.Native.Nat.{ℕ, ◌+◌, ◌*◌, ◌%◌}
use native.Mathlib.Omega.{arith}
use lib.ListN.{length, drop}
use lib.Seq.{sets}
use Rattle.octet.specs.Image.{image}
use Rattle.fields.specs.Fields.{parts}
use Rattle.fields.proofs.Inking.{run-inked}
use Rattle.menu_forms.specs.Menus.{text_fields}
use Rattle.menu_forms.specs.Form.{text_in}
use Rattle.menu_forms.specs.Block.{in_nibbles}
use Rattle.menu_writer.specs.declared.Loop.TheVariants.{Attributes}
use Rattle.menu_writer.specs.Internal.{loop_bytes}
use Rattle.menu_writer.proofs.Entries.{sent-length}
use Rattle.menu_writer.proofs.Storing.{two-stores, two-places}
use Rattle.menu_writer.proofs.Events.{event-past, event-sent}
use Rattle.menu_writer.proofs.putting.put_event.Goals as goal

pub returns : goal.returns
returns c =
    let a = c.args in
    let f : List ℕ = a.form.now in
    let x = c.byte_at-low in
    let y = c.byte_at-high in
    let k = c.byte_at-kind in
    let n = c.byte_at-count in
    let s = c.put_entries-s in
    let t = c.put_text in
    let v = ((n.result % 16 * 16 + k.result % 16) * 256 + y.result) * 256 + x.result in
    let xs = map image (parts 4 6 v) in
    let ys = loop_bytes Attributes n.result (drop (a.at + 4) f) in
    let zs = map image (in_nibbles (text_fields (text_in (drop s.result.at f)))) in
    let first : a.to + 6 ≡ a.to + length xs = ap (λ (j : ℕ). a.to + j) (sym (sent-length 6 v)) in
    let q : s.result.to ≡ a.to + length (xs ++ ys) = s.ensures.1 ∙ two-places xs ys a.to (a.to + 6) first in
    let sent =
    event-sent f a.at x.result y.result k.result n.result x.ensures.0 y.ensures.0 k.ensures.0 n.ensures.0 x.ensures.1
    y.ensures.1
    ∙ ap (λ (z : ℕ). xs ++ (ys ++ map image (in_nibbles (text_fields (text_in (drop z f)))))) (sym s.ensures.0) in
    let grouped = append_assoc xs ys zs in (
      event-past f a.at n.result n.ensures.0 s.result.at t.result.at s.ensures.0 t.ensures.0,
      t.ensures.1 ∙ two-places (xs ++ ys) zs a.to s.result.to q ∙ ap (λ (l : List ℕ). a.to + length l) (grouped ∙ sym sent),
      omega (arith, s.ensures.2, t.ensures.2, n.ensures.1),
      omega (arith, s.ensures.3, t.ensures.3, n.ensures.1),
      two-stores (xs ++ ys) zs a.to s.result.to q a.out.now s.new.out _
          (two-stores xs ys a.to (a.to + 6) first a.out.now c.put_field.new.out _ (c.put_field.ensures ∙ run-inked _ 6 _ _) s.ensures.4)
          t.ensures.4
          ∙ ap (λ (l : List ℕ). sets a.out.now a.to l) (grouped ∙ sym sent),
    )
