-- `menu_writer::putting::put_control` meets its contract: table 19, part by part. Assumes nothing.
use mathlib.Core.Path.{◌≡◌, ◌∙◌, sym, ap}
use mathlib.Core.List.{List, ◌++◌, map}
use Prim.Native.Nat.{ℕ, ◌+◌}
use native.Mathlib.Omega.{arith}
use lib.ListN.{length, drop}
use lib.Seq.{sets}
use Rattle.octet.specs.Image.{image}
use Rattle.fields.specs.Fields.{parts}
use Rattle.fields.proofs.Inking.{run-inked}
use Rattle.menu_forms.specs.Rows.{each}
use Rattle.menu_forms.specs.Menus.{zeros, fields, opening_fields, fill_fields, text_fields, event_fields}
use Rattle.menu_forms.specs.Form.{text_in, menu_in}
use Rattle.menu_forms.specs.Block.{in_nibbles}
use Rattle.menu_forms.proofs.Saying.{nibbles_are}
use Rattle.menu_writer.specs.declared.Loop.TheVariants.{Descriptors}
use Rattle.menu_writer.specs.Internal.{loop_bytes}
use Rattle.menu_writer.proofs.Entries.{sent-length}
use Rattle.menu_writer.proofs.Storing.{store-on}
use Rattle.menu_writer.proofs.Events.{events_in}
use Rattle.menu_writer.proofs.Wholes.{control-sent, opening-long}
use Rattle.menu_writer.proofs.putting.put_control.Goals as goal

pub overflow_add-t : goal.overflow_add-t
overflow_add-t c = omega (arith, c.byte_at-descriptors.ensures.1, c.put_entries-s.ensures.3, c.put_fill-filled.ensures.1, c.put_text-t.ensures.3)

pub put_events-requires : goal.put_events-requires
put_events-requires c =
    let d = c.byte_at-descriptors.ensures.1 in (
      omega (arith, d, c.put_entries-s.ensures.2, c.put_text-t.ensures.2),
      c.byte_at-events.ensures.1,
      omega (arith, d, c.put_entries-s.ensures.3, c.put_fill-filled.ensures.1, c.put_text-t.ensures.3),
    )

pub shape_of-out : goal.shape_of-out
shape_of-out c =
    c.put_events.auto.out ∙ c.put_field.auto.out ∙ c.put_text-t.auto.out ∙ c.put_fill-filled.auto.out
    ∙ c.put_entries-s.auto.out
    ∙ c.put_opening.auto.out

pub returns : goal.returns
returns c =
    let a = c.args in
    let f : List ℕ = a.form.now in
    let d = c.byte_at-descriptors in
    let n = c.byte_at-events in
    let o = c.put_opening in
    let s = c.put_entries-s in
    let w = c.put_fill-filled in
    let t = c.put_text-t in
    let g = c.byte_at in
    let m = c.put_field in
    let e = c.put_events in
    let O = map image (in_nibbles (opening_fields 0 a.control zeros (menu_in f))) in
    let D = loop_bytes Descriptors d.result (drop 9 f) in
    let F = map image (in_nibbles (fill_fields d.result 0)) in
    let H = map image (in_nibbles (text_fields (text_in (drop s.result.at f)))) in
    let M = map image (parts 4 2 g.result) in
    let E = map image (in_nibbles (each event_fields (events_in n.result (drop t.result.at f)))) in
    let sent =
    control-sent f d.result n.result s.result.at t.result.at d.ensures.0 n.ensures.0 s.ensures.0 t.ensures.0 a.control
    ∙ ap (λ (x : ℕ). O ++ (D ++ (F ++ (H ++ (map image (parts 4 2 x) ++ E))))) (sym g.ensures.0) in
    let last : t.result.to + 2 ≡ t.result.to + length M = ap (λ (k : ℕ). t.result.to + k) (sym (sent-length 2 g.result)) in
    e.ensures.1
    ∙ store-on M E t.result.to (t.result.to + 2) last t.new.out m.new.out (m.ensures ∙ run-inked _ 2 _ _)
    ∙ store-on H (M ++ E) w.result t.result.to t.ensures.1 w.new.out t.new.out t.ensures.4
    ∙ store-on F (H ++ (M ++ E)) s.result.to w.result w.ensures.0 s.new.out w.new.out w.ensures.2
    ∙ store-on D (F ++ (H ++ (M ++ E))) 19 s.result.to s.ensures.1 o.new.out s.new.out s.ensures.4
    ∙ store-on O (D ++ (F ++ (H ++ (M ++ E)))) 4 19 (opening-long f a.control) a.out.now o.new.out o.ensures
    ∙ ap (λ (l : List ℕ). sets a.out.now 4 l) (sym sent)
    ∙ ap (λ (x : ℕ). sets a.out.now 4 (map image (in_nibbles (fields 0 x zeros (menu_in f))))) c.requires
    ∙ ap (λ (l : List ℕ). sets a.out.now 4 (map image l)) (sym (nibbles_are 0 zeros (menu_in f)))
