-- `menu_reader::spelling::bits` meets its contract: the bits of what is left stand so many nibbles further on. Assumes nothing.
use mathlib.Core.Path.{◌≡◌, ◌∙◌, sym, ap₂, subst}
use mathlib.Core.List.{map}
use Prim.Native.Nat.{ℕ, ◌+◌, ◌*◌, ◌^◌, ◌<◌, min}
use native.Mathlib.Omega.{arith}
use Rattle.octet.specs.Decoding.{nib}
use Rattle.fields.specs.Fields.{field}
use Rattle.fields.specs.Compound.{compound}
use Rattle.menu_reader.proofs.Places.{bits-drop}
use Rattle.menu_reader.proofs.spelling.bits.Goals as goal

pub returns : goal.returns
returns c =
    let a = c.args in
    let n = compound a.control.now in
    let wide : min a.w 24 ≡ a.w = omega (arith, c.requires) in
    let place : 4 * a.at + a.skip ≡ a.at * 4 + a.skip = omega arith in (
      c.field_of.ensures.0 ∙ ap₂ (λ (x y : ℕ). field x y n) place wide ∙ sym (bits-drop a.skip a.w a.at (map nib a.control.now)),
      subst (λ (x : ℕ). c.field_of.result < 2 ^ x) wide c.field_of.ensures.1,
    )
