-- `menu_writer::loops::entry_length` meets its contract: one case for each loop. Assumes nothing.
use mathlib.Core.Path.{◌∙◌, sym, ap}
use Prim.Native.Nat.{ℕ, ◌+◌}
use native.Mathlib.Omega.{arith}
use mathlib.Core.List.{List}
use lib.ListN.{drop}
use Rattle.menu_forms.specs.Menus.{info_bytes}
use Rattle.menu_writer.specs.declared.Loop.{Loop}
use Rattle.menu_writer.specs.Internal.{entry_length}
use Rattle.menu_writer.proofs.Entries.{byte-front}
use Rattle.menu_writer.proofs.loops.entry_length.Goals as goal

pub returns-in-Attributes : goal.returns-in-Attributes
returns-in-Attributes c =
    let a = c.args in
    let f : List ℕ = drop a.at a.form.now in
    let b = c.byte_at.ensures.0 in
    let i = c.info_bytes.ensures in
    let e = ap (λ (x : ℕ). 1 + x) (i.0 ∙ ap info_bytes (b ∙ sym (byte-front a.at a.form.now))) in
    (e ∙ ap (λ (w : Loop). entry_length w f) (sym c.in-Attributes.is), omega (arith, i.2))
