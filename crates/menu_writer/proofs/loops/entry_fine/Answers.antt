-- `menu_writer::loops::entry_fine` meets its contract: one case for each loop. Assumes nothing.
use mathlib.Core.Path.{◌∙◌, sym, ap}
use mathlib.Core.List.{List}
use Prim.Native.Nat.{ℕ}
use lib.Dec.{ltb}
use lib.ListN.{drop}
use Rattle.menu_writer.specs.declared.Loop.{Loop}
use Rattle.menu_writer.specs.Internal.{entry_fine}
use Rattle.menu_writer.proofs.Entries.{byte-front, attribute_fits}
use Rattle.menu_writer.proofs.loops.entry_fine.Goals as goal

pub returns-in-Codes : goal.returns-in-Codes
returns-in-Codes c =
    let a = c.args in
    let f : List ℕ = a.form.now in
    ap (λ (x : ℕ). ltb x 128) (c.byte_at.ensures.0 ∙ sym (byte-front a.at f))
    ∙ ap (λ (w : Loop). entry_fine w (drop a.at f)) (sym c.in-Codes.is)

pub returns-in-Descriptors : goal.returns-in-Descriptors
returns-in-Descriptors c =
    let a = c.args in
    c.descriptor_fine.ensures ∙ ap (λ (w : Loop). entry_fine w (drop a.at a.form.now)) (sym c.in-Descriptors.is)

pub returns-in-Escapes : goal.returns-in-Escapes
returns-in-Escapes c =
    let a = c.args in
    c.escape_fine.ensures ∙ ap (λ (w : Loop). entry_fine w (drop a.at a.form.now)) (sym c.in-Escapes.is)

pub returns-in-Attributes : goal.returns-in-Attributes
returns-in-Attributes c =
    let a = c.args in
    let f : List ℕ = a.form.now in
    sym (attribute_fits f a.at c.byte_at-in-Attributes.result c.byte_at-in-Attributes.ensures.0)
    ∙ ap (λ (w : Loop). entry_fine w (drop a.at f)) (sym c.in-Attributes.is)
