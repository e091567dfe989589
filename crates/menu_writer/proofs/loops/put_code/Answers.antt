-- `menu_writer::loops::put_code` meets its contract. Assumes nothing.
use mathlib.Core.Path.{◌∙◌, refl, sym, ap}
use Prim.Native.Nat.{ℕ}
use native.Mathlib.Nat.{mod-eq_of_lt}
use lib.ListN.{set}
use Rattle.parity.specs.Parity.{letter}
use Rattle.menu_writer.proofs.Entries.{byte-front}
use Rattle.menu_writer.proofs.loops.put_code.Goals as goal

pub returns : goal.returns
returns c =
    let a = c.args in
    let b = c.byte_at in
    let code = mod-eq_of_lt b.ensures.1 ∙ b.ensures.0 ∙ sym (byte-front a.at a.form.now) in
    (refl, c.put.ensures ∙ ap (λ (x : ℕ). set a.out.now a.to x) (c.letter.ensures ∙ ap letter code))
