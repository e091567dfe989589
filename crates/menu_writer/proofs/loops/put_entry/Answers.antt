-- `menu_writer::loops::put_entry` meets its contract: one case for each loop. Assumes nothing.
use borrow.Author.Rules.{rules}
use mathlib.Core.Path.{◌∙◌, sym, ap}
use mathlib.Core.List.{List}
use Prim.Native.Nat.{ℕ}
use lib.ListN.{length, drop}
use lib.Seq.{sets}
use Rattle.fields.specs.Fields.{width}
use Rattle.menu_forms.specs.Block.{in_nibbles}
use Rattle.menu_writer.specs.declared.Loop.{Loop}
use Rattle.menu_writer.specs.Internal.{entry_bytes}
use Rattle.menu_writer.proofs.Entries.{sent-length}
use Rattle.menu_writer.proofs.loops.put_entry.Goals as goal

pub returns-in-Codes : goal.returns-in-Codes
returns-in-Codes c =
    let a = c.args in
    let f : List ℕ = drop a.at a.form.now in
    let w = sym c.in-Codes.is in
    let p = c.put_code.ensures in (
      p.0 ∙ ap (λ (x : Loop). length (entry_bytes x f)) w,
      search rules,
      p.1 ∙ ap (λ (x : Loop). sets a.out.now a.to (entry_bytes x f)) w,
    )

pub returns-in-Descriptors : goal.returns-in-Descriptors
unfolding in_nibbles width
returns-in-Descriptors c =
    let a = c.args in
    let f : List ℕ = drop a.at a.form.now in
    let w = sym c.in-Descriptors.is in
    let p = c.put_descriptor.ensures in (
      p.0 ∙ sym (sent-length 5 _) ∙ ap (λ (x : Loop). length (entry_bytes x f)) w,
      search rules,
      p.1 ∙ ap (λ (x : Loop). sets a.out.now a.to (entry_bytes x f)) w,
    )

pub returns-in-Escapes : goal.returns-in-Escapes
unfolding in_nibbles width
returns-in-Escapes c =
    let a = c.args in
    let f : List ℕ = drop a.at a.form.now in
    let w = sym c.in-Escapes.is in
    let p = c.put_escape.ensures in (
      p.0 ∙ sym (sent-length 6 _) ∙ ap (λ (x : Loop). length (entry_bytes x f)) w,
      search rules,
      p.1 ∙ ap (λ (x : Loop). sets a.out.now a.to (entry_bytes x f)) w,
    )

pub returns-in-Attributes : goal.returns-in-Attributes
returns-in-Attributes c =
    let a = c.args in
    let f : List ℕ = drop a.at a.form.now in
    let w = sym c.in-Attributes.is in
    let p = c.put_attribute.ensures in (
      p.0 ∙ ap (λ (x : Loop). length (entry_bytes x f)) w,
      search rules,
      p.2 ∙ ap (λ (x : Loop). sets a.out.now a.to (entry_bytes x f)) w,
    )
