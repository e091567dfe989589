-- `menu_writer::putting::put_text` meets its contract: the number of escapes, the escapes, the length. Assumes nothing.
use mathlib.Core.Path.{◌≡◌, ◌∙◌, sym, ap}
use mathlib.Core.List.{List, ◌++◌, map, append_assoc}
use Prim.Native.Nat.{ℕ, ◌+◌}
use native.Mathlib.Omega.{arith}
use lib.ListN.{length, drop}
use lib.Seq.{sets}
use Rattle.octet.specs.Image.{image}
use Rattle.fields.specs.Fields.{parts}
use Rattle.fields.proofs.Inking.{run-inked}
use Rattle.menu_writer.specs.declared.Loop.TheVariants.{Escapes}
use Rattle.menu_writer.specs.Internal.{loop_bytes}
use Rattle.menu_writer.proofs.Entries.{sent-length}
use Rattle.menu_writer.proofs.Storing.{two-stores, two-places}
use Rattle.menu_writer.proofs.Texts.{text-end, text-sent}
use Rattle.menu_writer.proofs.putting.put_text.Goals as goal

pub returns : goal.returns
returns c =
    let a = c.args in
    let f : List ℕ = a.form.now in
    let e = c.byte_at-escapes in
    let n = c.byte_at-codes in
    let s = c.put_entries-s in
    let xs = map image (parts 4 2 e.result) in
    let ys = loop_bytes Escapes e.result (drop (a.at + 2) f) in
    let zs = map image (parts 4 2 n.result) in
    let first : a.to + 2 ≡ a.to + length xs = ap (λ (k : ℕ). a.to + k) (sym (sent-length 2 e.result)) in
    let sent = text-sent f a.at e.result n.result e.ensures.0 n.ensures.0 in
    let second = two-places xs ys a.to (a.to + 2) first in
    let q : s.result.to ≡ a.to + length (xs ++ ys) = s.ensures.1 ∙ second in
    let last : s.result.to + 2 ≡ s.result.to + length zs = ap (λ (k : ℕ). s.result.to + k) (sym (sent-length 2 n.result)) in
    let grouped = append_assoc xs ys zs in (
      text-end f a.at e.result n.result e.ensures.0 n.ensures.0 s.result.at s.ensures.0,
      last ∙ two-places (xs ++ ys) zs a.to s.result.to q ∙ ap (λ (l : List ℕ). a.to + length l) (grouped ∙ sym sent),
      omega (arith, s.ensures.2, e.ensures.1, n.ensures.1),
      omega (arith, s.ensures.3, e.ensures.1),
      two-stores (xs ++ ys) zs a.to s.result.to q a.out.now s.new.out _
          (two-stores xs ys a.to (a.to + 2) first a.out.now c.put_field.new.out _ (c.put_field.ensures ∙ run-inked _ 2 _ _) s.ensures.4)
          (c.put_field-2.ensures ∙ run-inked _ 2 _ _)
          ∙ ap (λ (l : List ℕ). sets a.out.now a.to l) (grouped ∙ sym sent),
    )
