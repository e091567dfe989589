-- `fields::nibble_in` meets its contract: it is what the byte decodes to. Assumes nothing.
use borrow.Author.Rules.{rules}
use mathlib.Core.Path.{◌∙◌, sym, ap}
use Prim.Native.Nat.{ℕ, ◌%◌}
use Rattle.fields.proofs.Bits.{get_d_nib}
use Rattle.fields.proofs.nibble_in.Goals as goal

pub returns : goal.returns
returns c =
    let a = c.args in
    ap (λ (n : ℕ). n % 16) (c.decode.ensures ∙ sym (get_d_nib a.s.now a.i (search rules)))
